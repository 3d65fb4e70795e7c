-- How a transaction's part of a log grows with the log.
use Rattle.std.proofs.Common.{◌≡◌, ℕ, ◌+◌, ◌<◌, Bool, true, false, not, cond, ◌&&◌, ◌||◌, length, take, get_or, List, [], ◌∷◌, ◌++◌, map, refl, sym, ap, ◌∙◌, inl, inr}
use Rattle.std.specs.List.{list_any, filter}
use Rattle.std.proofs.lemmas.Bool.{cond-true, cond-false, cases_Bool, and_from, and_right, not_from_false, not_from_true, or_left, or_right}
use Rattle.std.proofs.lemmas.List.{map-append}
use Rattle.std.proofs.lemmas.List.Elements.{filter-append}
use Rattle.std.proofs.lemmas.List.Folds.{list_any-append}
use Rattle.std.proofs.lemmas.List.Sums.{fold_push}
use Rattle.cl_types.specs.declared.operations.TxnId.{TxnId}
use Rattle.cl_log.specs.declared.records.LogRec.{LogRec}
use Rattle.cl_log.specs.declared.stage.Stage.TheVariants.{Unknown, Running, Prepared, Ended}
use Rattle.cl_log.specs.LogEntry.{LogEntry, numbered}
use Rattle.cl_log.specs.Kind.{txn_of, is_of, opens, is_prepared, is_end}
use Rattle.cl_log.specs.Open.{is_among, has_record, has_begun, has_prepared, has_ended, is_open, chain_of, with_txn, txns_of, stage_of, is_under_way}
use Rattle.cl_log.proofs.Numbered.{numbered_more}
use Rattle.cl_log.proofs.Txn.{filter_with_txn}

pub or_false : (b : Bool) → (b || false) ≡ b
or_false true = refl
or_false false = refl

pub cong_and : {a b c d : Bool} → a ≡ b → c ≡ d → (a && c) ≡ (b && d)
cong_and {a} {b} {c} {d} e f = ap (λ x. x && c) e ∙ ap (λ x. b && x) f

numbers_of_one : (b : Bool) (entry : LogEntry) → map (λ (e : LogEntry). e.number) (cond b (entry ∷ []) []) ≡ cond b (entry.number ∷ []) []
numbers_of_one true entry = refl
numbers_of_one false entry = refl

-- a test of a log with one more record
pub list_any_push : (p : LogEntry → Bool) (entries : List LogEntry) (entry : LogEntry) → list_any p (entries ++ entry ∷ []) ≡ (list_any p entries || p entry)
list_any_push p entries entry = list_any-append p entries (entry ∷ []) ∙ ap (λ b. list_any p entries || b) (or_false (p entry))

-- whether a transaction has some record, in a log with one more record, of the transaction and of another
module _ (test : LogRec → Bool) (txn : TxnId) (entries : List LogEntry) (entry : LogEntry) where
  has_record_push : has_record test txn (entries ++ entry ∷ []) ≡ (has_record test txn entries || (is_of txn entry.content && test entry.content))
  has_record_push = list_any_push (λ e. is_of txn e.content && test e.content) entries entry

  has_record_push-own : is_of txn entry.content ≡ true → has_record test txn (entries ++ entry ∷ []) ≡ (has_record test txn entries || test entry.content)
  has_record_push-own own = has_record_push ∙ ap (λ b. has_record test txn entries || (b && test entry.content)) own

  has_record_push-other : is_of txn entry.content ≡ false → has_record test txn (entries ++ entry ∷ []) ≡ has_record test txn entries
  has_record_push-other other = has_record_push ∙ ap (λ b. has_record test txn entries || (b && test entry.content)) other ∙ or_false _

pub has_begun_push-own : (txn : TxnId) (entries : List LogEntry) (entry : LogEntry) → is_of txn entry.content ≡ true → has_begun (entries ++ entry ∷ []) txn ≡ (has_begun entries txn || opens entry.content)
unfolding has_begun
has_begun_push-own txn entries entry own = has_record_push-own opens txn entries entry own

pub has_begun_push-other : (txn : TxnId) (entries : List LogEntry) (entry : LogEntry) → is_of txn entry.content ≡ false → has_begun (entries ++ entry ∷ []) txn ≡ has_begun entries txn
unfolding has_begun
has_begun_push-other txn entries entry other = has_record_push-other opens txn entries entry other

pub has_prepared_push-own : (txn : TxnId) (entries : List LogEntry) (entry : LogEntry) → is_of txn entry.content ≡ true → has_prepared (entries ++ entry ∷ []) txn ≡ (has_prepared entries txn || is_prepared entry.content)
unfolding has_prepared
has_prepared_push-own txn entries entry own = has_record_push-own is_prepared txn entries entry own

pub has_prepared_push-other : (txn : TxnId) (entries : List LogEntry) (entry : LogEntry) → is_of txn entry.content ≡ false → has_prepared (entries ++ entry ∷ []) txn ≡ has_prepared entries txn
unfolding has_prepared
has_prepared_push-other txn entries entry other = has_record_push-other is_prepared txn entries entry other

pub has_ended_push : (txn : TxnId) (entries : List LogEntry) (entry : LogEntry) → has_ended (entries ++ entry ∷ []) txn ≡ (has_ended entries txn || (is_of txn entry.content && is_end entry.content))
unfolding has_ended
has_ended_push txn entries entry = has_record_push is_end txn entries entry

pub has_ended_push-own : (txn : TxnId) (entries : List LogEntry) (entry : LogEntry) → is_of txn entry.content ≡ true → has_ended (entries ++ entry ∷ []) txn ≡ (has_ended entries txn || is_end entry.content)
unfolding has_ended
has_ended_push-own txn entries entry own = has_record_push-own is_end txn entries entry own

pub has_ended_push-other : (txn : TxnId) (entries : List LogEntry) (entry : LogEntry) → is_of txn entry.content ≡ false → has_ended (entries ++ entry ∷ []) txn ≡ has_ended entries txn
unfolding has_ended
has_ended_push-other txn entries entry other = has_record_push-other is_end txn entries entry other

-- an empty log has no End
pub has_ended-nil : (txn : TxnId) → has_ended [] txn ≡ false
unfolding has_ended
has_ended-nil txn = refl

-- a record of another transaction changes nothing of this one
pub is_open_push-other : (txn : TxnId) (entries : List LogEntry) (entry : LogEntry) → is_of txn entry.content ≡ false → is_open (entries ++ entry ∷ []) txn ≡ is_open entries txn
is_open_push-other txn entries entry h = cong_and (has_begun_push-other txn entries entry h) (ap not (has_ended_push-other txn entries entry h))

pub is_open_push-own : (txn : TxnId) (entries : List LogEntry) (entry : LogEntry) → is_of txn entry.content ≡ true →
    is_open (entries ++ entry ∷ []) txn ≡ ((has_begun entries txn || opens entry.content) && not (has_ended entries txn || is_end entry.content))
is_open_push-own txn entries entry h = cong_and (has_begun_push-own txn entries entry h) (ap not (has_ended_push-own txn entries entry h))

-- a record that opens and ends nothing changes no transaction
pub is_open_push-idle : (txn : TxnId) (entries : List LogEntry) (entry : LogEntry) → opens entry.content ≡ false → is_end entry.content ≡ false → is_open (entries ++ entry ∷ []) txn ≡ is_open entries txn
is_open_push-idle txn entries entry closed on =
    elim (cases_Bool (is_of txn entry.content)) [
      | inl t ↦ is_open_push-own txn entries entry t
          ∙ cong_and (ap (λ b. has_begun entries txn || b) closed ∙ or_false _) (ap not (ap (λ b. has_ended entries txn || b) on ∙ or_false _))
      | inr f ↦ is_open_push-other txn entries entry f
    ]

-- a record that ends nothing changes no transaction that has begun
pub is_open_push-begun : (txn : TxnId) (entries : List LogEntry) (entry : LogEntry) → has_begun entries txn ≡ true → is_end entry.content ≡ false → is_open (entries ++ entry ∷ []) txn ≡ is_open entries txn
is_open_push-begun txn entries entry begun on =
    elim (cases_Bool (is_of txn entry.content)) [
      | inl t ↦ is_open_push-own txn entries entry t
          ∙ cong_and (or_left _ _ begun ∙ sym begun) (ap not (ap (λ b. has_ended entries txn || b) on ∙ or_false _))
      | inr f ↦ is_open_push-other txn entries entry f
    ]

-- a transaction has ended once its End is there
pub is_open_push-end : (txn : TxnId) (entries : List LogEntry) (entry : LogEntry) → is_of txn entry.content ≡ true → is_end entry.content ≡ true → is_open (entries ++ entry ∷ []) txn ≡ false
is_open_push-end txn entries entry own ended =
    is_open_push-own txn entries entry own ∙ and_right _ _ (not_from_true _ (or_right _ _ ended))

-- a record that opens its transaction, which has not ended
pub is_open_push-opens : (txn : TxnId) (entries : List LogEntry) (entry : LogEntry) → is_of txn entry.content ≡ true → opens entry.content ≡ true → is_end entry.content ≡ false → has_ended entries txn ≡ false →
    is_open (entries ++ entry ∷ []) txn ≡ true
is_open_push-opens txn entries entry own opened on running =
    is_open_push-own txn entries entry own ∙ and_from _ _ (or_right _ _ opened) (not_from_false _ (ap (λ b. has_ended entries txn || b) on ∙ or_false _ ∙ running))

-- the numbers of a transaction's records with one more record
pub chain_of_push : (txn : TxnId) (entries : List LogEntry) (entry : LogEntry) → chain_of (entries ++ entry ∷ []) txn ≡ chain_of entries txn ++ cond (is_of txn entry.content) (entry.number ∷ []) []
unfolding chain_of
chain_of_push txn entries entry =
    ap (map (λ (e : LogEntry). e.number)) (filter-append (λ (e : LogEntry). is_of txn e.content) entries (entry ∷ []))
    ∙ map-append (λ (e : LogEntry). e.number) (filter (λ (e : LogEntry). is_of txn e.content) entries) (filter (λ (e : LogEntry). is_of txn e.content) (entry ∷ []))
    ∙ ap (λ ns. map (λ (e : LogEntry). e.number) (filter (λ (e : LogEntry). is_of txn e.content) entries) ++ ns) (numbers_of_one (is_of txn entry.content) entry)

-- the transactions of a log with one more record
pub txns_of_push : (entries : List LogEntry) (entry : LogEntry) → txns_of (entries ++ entry ∷ []) ≡ with_txn (txns_of entries) entry
unfolding txns_of
txns_of_push entries entry = fold_push with_txn [] entries entry

-- those of the transactions of the first records that pass a test, with one more record
module _ (p : TxnId → Bool) (n i : ℕ) (xs : List LogRec) (x : LogRec) (so_far : List TxnId)
    (within : i < length xs) (at : x ≡ get_or xs i x) (is : so_far ≡ filter p (txns_of (numbered n (take i xs)))) where
  more : filter p (txns_of (numbered n (take (i + 1) xs))) ≡ cond (p (txn_of x) && not (is_among (txn_of x) so_far)) (so_far ++ txn_of x ∷ []) so_far
  more =
      ap (λ es. filter p (txns_of es)) (numbered_more n i xs x within at)
      ∙ ap (filter p) (txns_of_push (numbered n (take i xs)) (record { number = n + i; content = x }))
      ∙ filter_with_txn p (txns_of (numbered n (take i xs))) (txn_of x)
      ∙ ap (λ ts. cond (p (txn_of x) && not (is_among (txn_of x) ts)) (ts ++ txn_of x ∷ []) ts) (sym is)

  pub open_pushed : p (txn_of x) ≡ true → is_among (txn_of x) so_far ≡ false → so_far ++ txn_of x ∷ [] ≡ filter p (txns_of (numbered n (take (i + 1) xs)))
  open_pushed t f = sym (more ∙ cond-true _ _ _ (and_from _ _ t (not_from_false _ f)))

  pub open_kept : (p (txn_of x) && not (is_among (txn_of x) so_far)) ≡ false → so_far ≡ filter p (txns_of (numbered n (take (i + 1) xs)))
  open_kept f = sym (more ∙ cond-false _ _ _ f)

-- a stage is determined by three tests
pub cong_stage : {a b c d e f : Bool} → a ≡ b → c ≡ d → e ≡ f → cond (not a) Unknown (cond c Ended (cond e Prepared Running)) ≡ cond (not b) Unknown (cond d Ended (cond f Prepared Running))
cong_stage {a} {b} {c} {d} {e} {f} begun ended prepared =
    ap (λ x. cond (not x) Unknown (cond c Ended (cond e Prepared Running))) begun
    ∙ ap (λ x. cond (not b) Unknown (cond x Ended (cond e Prepared Running))) ended
    ∙ ap (λ x. cond (not b) Unknown (cond d Ended (cond x Prepared Running))) prepared

-- a transaction is open by its stage
pub is_open-stage : (entries : List LogEntry) (txn : TxnId) → is_open entries txn ≡ is_under_way (stage_of entries txn)
is_open-stage entries txn = by_parts (has_begun entries txn) (has_ended entries txn) (has_prepared entries txn)
  where
    by_parts : (begun ended prepared : Bool) → (begun && not ended) ≡ is_under_way (cond (not begun) Unknown (cond ended Ended (cond prepared Prepared Running)))
    by_parts false ended prepared = refl
    by_parts true true prepared = refl
    by_parts true false true = refl
    by_parts true false false = refl
