-- What is known of a transaction in a log with one more record.
use Rattle.std.proofs.Common.{◌≡◌, ℕ, Bool, true, false, not, cond, eqb, ◌&&◌, List, [], ◌∷◌, ◌++◌, reverse, Option, Some, None, refl, sym, ap, ◌∙◌, subst, inl, inr}
use Rattle.std.specs.List.{filter}
use Rattle.std.proofs.lemmas.Bool.{cases_Bool, cond-true, cond-false, and_right, both_ways, ne_eqb, not_from_false}
use Rattle.std.proofs.lemmas.List.{append-nil, reverse-append}
use Rattle.std.proofs.lemmas.List.Elements.{filter-append, filter_agree}
use Rattle.std.proofs.lemmas.Option.{same_Some, none-some}
use Rattle.cl_types.specs.declared.operations.TxnId.{TxnId}
use Rattle.cl_types.specs.Transactions.{same_txn}
use Rattle.cl_types.proofs.Transactions.{same_txn-true, same_txn-itself}
use Rattle.cl_log.specs.declared.known.Known.{Known}
use Rattle.cl_log.specs.declared.records.LogRec.{LogRec}
use Rattle.cl_log.specs.declared.records.LogRec.TheVariants.{Comp}
use Rattle.cl_log.specs.LogEntry.{LogEntry, IsNumberedFrom, content_at}
use Rattle.cl_log.specs.Kind.{txn_of, is_of, can_be_undone, undoes}
use Rattle.cl_log.specs.Known.{nothing, known_with, known_from, left_past, left_after}
use Rattle.cl_log.specs.Open.{has_begun, has_prepared, has_ended}
use Rattle.cl_log.specs.Rest.{is_undone, is_left_of, rest_to_undo, first_number}
use Rattle.cl_log.specs.Slots.{last_of, last_that}
use Rattle.cl_log.proofs.Open.{has_begun_push-own, has_begun_push-other, has_prepared_push-own, has_prepared_push-other, has_ended_push-own, has_ended_push-other}
use Rattle.cl_log.proofs.Rest.{rest_to_undo_push-plain, rest_to_undo_push-undo, heads_of_number, first_of_rest_is, rest-without_first}

filter_all : (xs : List LogEntry) → filter (λ _. true) xs ≡ xs
filter_all [] = refl
filter_all (x ∷ xs) = ap (λ es. x ∷ es) (filter_all xs)

-- the last record of a transaction with one more
last_of_push : (entries : List LogEntry) (entry : LogEntry) (txn : TxnId) → last_of (entries ++ entry ∷ []) txn ≡ cond (is_of txn entry.content) (Some entry.number) (last_of entries txn)
last_of_push entries entry txn =
    let own = λ (e : LogEntry). is_of txn e.content in
    ap (λ es. first_number (reverse es)) (filter-append own entries (entry ∷ []))
    ∙ (elim (is_of txn entry.content) as (λ b. first_number (reverse (filter own entries ++ cond b (entry ∷ []) [])) ≡ cond b (Some entry.number) (first_number (reverse (filter own entries)))) [
      | true ↦ ap first_number (reverse-append (filter own entries) (entry ∷ []))
      | false ↦ ap (λ es. first_number (reverse es)) (append-nil (filter own entries))
    ])

first_of_cond : (b : Bool) (x : LogEntry) (xs : List LogEntry) → first_number (cond b (x ∷ xs) xs) ≡ cond b (Some x.number) (first_number xs)
first_of_cond true x xs = refl
first_of_cond false x xs = refl

-- the rest with one more record
left_push : (entries : List LogEntry) (number : ℕ) (content : LogRec) (txn : TxnId) →
    first_number (rest_to_undo (entries ++ record { number = number; content = content } ∷ []) txn)
    ≡ cond (is_of txn content && (can_be_undone content && not (is_undone entries number))) (Some number) (left_past entries content txn)
left_push entries number (Comp own table key before undone form) txn =
    ap first_number (rest_to_undo_push-undo entries (record { number = number; content = Comp own table key before undone form }) txn undone (λ n. refl) refl)
    ∙ sym (cond-false _ (Some number) _ (and_right (same_txn own txn) false refl))
left_push entries number content txn =
    let entry : LogEntry = record { number = number; content = content } in
    ap first_number (rest_to_undo_push-plain entries entry txn (λ n. refl))
    ∙ first_of_cond (is_left_of entries txn entry) entry (rest_to_undo entries txn)
    ∙ ap (λ es. cond (is_left_of entries txn entry) (Some number) (first_number es)) (sym (filter_all (rest_to_undo entries txn)))

same_known : {last last' left left' : Option ℕ} {begun begun' prepared prepared' ended ended' : Bool} → last ≡ last' → begun ≡ begun' → prepared ≡ prepared' → ended ≡ ended' → left ≡ left' →
    ◌≡◌ {A = Known} (record { last = last; begun = begun; prepared = prepared; ended = ended; left = left }) (record { last = last'; begun = begun'; prepared = prepared'; ended = ended'; left = left' })
same_known a b c d e i = record { last = a i; begun = b i; prepared = c i; ended = d i; left = e i }

-- what is known with one more record, of a transaction and of others
module _ (entries : List LogEntry) (number : ℕ) (content : LogRec) (txn : TxnId) where
  abbrev pushed : List LogEntry
  pushed = entries ++ record { number = number; content = content } ∷ []

  -- what is known before the record, with the one left past it
  abbrev pub past : Known
  past = record (known_from entries txn) { left = left_past entries content txn }

  pub known_push-own : is_of txn content ≡ true → known_from pushed txn ≡ known_with past content number (is_undone entries number)
  known_push-own own =
      let entry : LogEntry = record { number = number; content = content } in
      same_known
      (last_of_push entries entry txn ∙ cond-true _ _ _ own)
      (has_begun_push-own txn entries entry own)
      (has_prepared_push-own txn entries entry own)
      (has_ended_push-own txn entries entry own)
      (left_push entries number content txn ∙ ap (λ b. cond (b && (can_be_undone content && not (is_undone entries number))) (Some number) (left_past entries content txn)) own)

  pub known_push-other : is_of txn content ≡ false → known_from pushed txn ≡ past
  known_push-other other =
      let entry : LogEntry = record { number = number; content = content } in
      same_known
      (last_of_push entries entry txn ∙ cond-false _ _ _ other)
      (has_begun_push-other txn entries entry other)
      (has_prepared_push-other txn entries entry other)
      (has_ended_push-other txn entries entry other)
      (left_push entries number content txn ∙ ap (λ b. cond (b && (can_be_undone content && not (is_undone entries number))) (Some number) (left_past entries content txn)) other)

-- nothing is known of an empty log
pub known_from-nil : (txn : TxnId) → known_from [] txn ≡ nothing
unfolding has_begun has_prepared has_ended rest_to_undo
known_from-nil txn = refl

-- a record leaves the first number that is left, unless it names that
left_past-names : (entries : List LogEntry) (content : LogRec) (txn : TxnId) (named : ℕ) → ((number : ℕ) → undoes number content ≡ eqb named number) →
    left_past entries content txn ≡ first_number (filter (λ x. not (eqb named x.number)) (rest_to_undo entries txn))
left_past-names entries content txn named names =
    ap first_number (filter_agree (λ x. not (undoes x.number content)) (λ x. not (eqb named x.number)) (λ x. ap not (names x.number)) (rest_to_undo entries txn))

first_kept_of : (named : ℕ) (xs : List LogEntry) → (first_number xs ≡ Some named → ⊥) → first_number (filter (λ x. not (eqb named x.number)) xs) ≡ first_number xs
first_kept_of named [] h = refl
first_kept_of named (x ∷ xs) h = ap first_number (cond-true _ _ _ (not_from_false _ (ne_eqb named x.number (λ e. h (ap (λ k. Some k) (sym e))))))

pub left_past-none : (entries : List LogEntry) (content : LogRec) → ((number : ℕ) → undoes number content ≡ false) → (txn : TxnId) → left_past entries content txn ≡ first_number (rest_to_undo entries txn)
left_past-none entries content none txn =
    ap first_number (filter_agree (λ x. not (undoes x.number content)) (λ _. true) (λ x. ap not (none x.number)) (rest_to_undo entries txn) ∙ filter_all (rest_to_undo entries txn))

-- where no record has the number that is named
module _ (n : ℕ) (entries : List LogEntry) (numbers : IsNumberedFrom n entries) (content : LogRec) (named : ℕ) (names : (number : ℕ) → undoes number content ≡ eqb named number) where
  pub left_past-missing : content_at entries named ≡ None → (txn : TxnId) → left_past entries content txn ≡ first_number (rest_to_undo entries txn)
  left_past-missing missing txn =
      left_past-names entries content txn named names
      ∙ first_kept_of named (rest_to_undo entries txn)
      (λ h. let (first, others, is, heads) = heads_of_number n entries txn named numbers h in none-some first.content (sym missing ∙ ap (content_at entries) (sym is) ∙ heads.content))

  -- the record of the first number that is left for a transaction is its own
  owner : (undone : LogRec) → content_at entries named ≡ Some undone → (txn : TxnId) → first_number (rest_to_undo entries txn) ≡ Some named → txn_of undone ≡ txn
  owner undone there txn h =
      let (first, others, is, heads) = heads_of_number n entries txn named numbers h in
      ap txn_of (same_Some undone first.content (sym there ∙ ap (content_at entries) (sym is) ∙ heads.content)) ∙ same_txn-true (txn_of first.content) txn heads.own

  -- where one has it, and is not the last that is left of its transaction
  pub left_past-behind : (undone : LogRec) → content_at entries named ≡ Some undone → (first_number (rest_to_undo entries (txn_of undone)) ≡ Some named → ⊥) →
      (txn : TxnId) → left_past entries content txn ≡ first_number (rest_to_undo entries txn)
  left_past-behind undone there apart txn =
      left_past-names entries content txn named names
      ∙ first_kept_of named (rest_to_undo entries txn)
      (λ h. apart (subst (λ t. first_number (rest_to_undo entries t) ≡ Some named) (sym (owner undone there txn h)) h))

  -- where that is the last one left of its transaction
  module _ (undone : LogRec) (there : content_at entries named ≡ Some undone) (is : first_number (rest_to_undo entries (txn_of undone)) ≡ Some named) (next : Option ℕ)
      (before : (before : List LogEntry) (entry : LogEntry) (after : List LogEntry) → entries ≡ before ++ entry ∷ after → entry.number ≡ named → next ≡ last_that (is_left_of entries (txn_of entry.content)) before) where
    past_own : left_past entries content (txn_of undone) ≡ next
    past_own =
        let own = txn_of undone in
        let (first, others, number, heads) = heads_of_number n entries own named numbers is in
        let parts = first_of_rest_is entries own first others heads.rest in
        left_past-names entries content own named names
        ∙ ap (λ k. first_number (filter (λ x. not (eqb k x.number)) (rest_to_undo entries own))) (sym number)
        ∙ ap first_number (rest-without_first entries own n numbers first others heads.rest ∙ parts.are_others)
        ∙ sym (before parts.before first parts.after parts.whole number ∙ ap (λ t. last_that (is_left_of entries t) parts.before) (same_txn-true (txn_of first.content) own heads.own))

    pub left_past-last : (txn : TxnId) → left_past entries content txn ≡ left_after (Some (txn_of undone, next)) (first_number (rest_to_undo entries txn)) txn
    left_past-last txn =
        elim (cases_Bool (same_txn (txn_of undone) txn)) [
          | inl t ↦ ap (left_past entries content) (sym (same_txn-true (txn_of undone) txn t)) ∙ past_own ∙ sym (cond-true _ _ _ t)
          | inr f ↦
              left_past-names entries content txn named names
              ∙ first_kept_of named (rest_to_undo entries txn)
              (λ h. both_ways _ f (ap (same_txn (txn_of undone)) (sym (owner undone there txn h)) ∙ same_txn-itself (txn_of undone)))
              ∙ sym (cond-false _ _ _ f)
        ]

-- an index after one more record: what the record leaves of each rest, and then what it adds for its transaction
module _ (entries : List LogEntry) (number : ℕ) (content : LogRec) (uncovered : Option (TxnId × Option ℕ)) (old between new : TxnId → Known)
    (is_old : (txn : TxnId) → old txn ≡ known_from entries txn)
    (is_between : (txn : TxnId) → between txn ≡ record (old txn) { left = left_after uncovered (old txn).left txn })
    (lefts : (txn : TxnId) → left_past entries content txn ≡ left_after uncovered (first_number (rest_to_undo entries txn)) txn)
    (is_new : (txn : TxnId) → new txn ≡ cond (same_txn (txn_of content) txn) (known_with (between (txn_of content)) content number (is_undone entries number)) (between txn)) where
  is_past : (txn : TxnId) → between txn ≡ past entries number content txn
  is_past txn =
      is_between txn
      ∙ ap (λ (known : Known). record known { left = left_after uncovered known.left txn }) (is_old txn)
      ∙ ap (λ left. record (known_from entries txn) { left = left }) (sym (lefts txn))

  pub indexed_push : (txn : TxnId) → new txn ≡ known_from (entries ++ record { number = number; content = content } ∷ []) txn
  indexed_push txn =
      elim (cases_Bool (same_txn (txn_of content) txn)) [
        | inl t ↦
            is_new txn
            ∙ cond-true _ _ _ t
            ∙ ap (λ own. known_with (between own) content number (is_undone entries number)) (same_txn-true (txn_of content) txn t)
            ∙ ap (λ known. known_with known content number (is_undone entries number)) (is_past txn)
            ∙ sym (known_push-own entries number content txn t)
        | inr f ↦ is_new txn ∙ cond-false _ _ _ f ∙ is_past txn ∙ sym (known_push-other entries number content txn f)
      ]
