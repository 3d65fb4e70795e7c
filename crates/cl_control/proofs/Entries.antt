-- Lists of open transactions.
use Rattle.std.proofs.Common.{◌≡◌, ℕ, Bool, true, false, cond, ◌||◌, ◌&&◌, not, if◌then◌else◌, List, [], ◌∷◌, ◌++◌, map, filter, All, Some, None, is_some, option_map, refl, sym, ap, ◌∙◌, subst, true≢false, ◌+◌, ◌<◌, length, take, drop, get_or, add-zero}
use Rattle.std.specs.List.{list_any, IsDistinct, AllByRecursion}
use Rattle.std.specs.Option.{option_map_or}
use Rattle.std.proofs.lemmas.Bool.{cond-true, cond-false, not_from_true, not_from_false, and_from, and_left, and_right, or_from}
use Rattle.std.proofs.lemmas.List.Elements.{All-cons, All-head, All-tail, All-nil}
use Rattle.std.proofs.lemmas.List.{get_or-drop, take_more}
use Rattle.std.proofs.lemmas.List.Folds.{list_any-append}
use Rattle.std.proofs.lemmas.Map.Keys.{IsDistinct-head, IsDistinct-tail}
use Rattle.cl_types.specs.declared.operations.TxnId.{TxnId}
use Rattle.cl_types.specs.Transactions.{same_txn}
use Rattle.cl_types.proofs.Transactions.{same_txn-true, same_txn-symmetric}
use Rattle.cl_control.specs.declared.entry.Told.{Told}
use Rattle.cl_control.specs.Calls.{is_logged, is_told, without_told}
use Rattle.cl_control.specs.State.{Entry, entry_named, changed, without}

-- the names of transactions
abbrev pub names : List Entry → List TxnId
names entries = map (λ entry. entry.txn) entries

module _ (txn : TxnId) where
  -- the transaction that is found has the name
  pub found-name : (entries : List Entry) (entry : Entry) → entry_named txn entries ≡ Some entry → txn ≡ entry.txn
  found-name [] entry h = absurd (cc)
  found-name (x ∷ xs) entry h = by (found-name xs entry) (same_txn txn x.txn) refl h
    where
      by : (entry_named txn xs ≡ Some entry → txn ≡ entry.txn) → (b : Bool) → same_txn txn x.txn ≡ b → cond b (Some x) (entry_named txn xs) ≡ Some entry → txn ≡ entry.txn
      by rest true e here = let is : x ≡ entry = cc in same_txn-true txn x.txn e ∙ ap (λ y. y.txn) is
      by rest false e here = rest here

  -- what holds of each holds of the one that is found
  pub All-found : (P : Entry → Type 0) (entries : List Entry) (entry : Entry) → All P entries → entry_named txn entries ≡ Some entry → P entry
  All-found P [] entry all h = absurd (cc)
  All-found P (x ∷ xs) entry all h = by (All-found P xs entry (All-tail P x xs all)) (same_txn txn x.txn) h
    where
      by : (entry_named txn xs ≡ Some entry → P entry) → (b : Bool) → cond b (Some x) (entry_named txn xs) ≡ Some entry → P entry
      by rest true here = let is : x ≡ entry = cc in subst P is (All-head P x xs all)
      by rest false here = rest here

  -- it is found exactly where it is open
  pub open-found : (entries : List Entry) (entry : Entry) → entry_named txn entries ≡ Some entry → list_any (λ x. same_txn txn x.txn) entries ≡ true
  open-found [] entry h = absurd (cc)
  open-found (x ∷ xs) entry h = by (open-found xs entry) (same_txn txn x.txn) h
    where
      by : (entry_named txn xs ≡ Some entry → list_any (λ y. same_txn txn y.txn) xs ≡ true) → (b : Bool) → cond b (Some x) (entry_named txn xs) ≡ Some entry → (b || list_any (λ y. same_txn txn y.txn) xs) ≡ true
      by rest true here = refl
      by rest false here = rest here

  pub is_some-entry_named : (entries : List Entry) → is_some (entry_named txn entries) ≡ list_any (λ x. same_txn txn x.txn) entries
  is_some-entry_named [] = refl
  is_some-entry_named (x ∷ xs) = by (is_some-entry_named xs) (same_txn txn x.txn)
    where
      by : is_some (entry_named txn xs) ≡ list_any (λ y. same_txn txn y.txn) xs → (b : Bool) → is_some (cond b (Some x) (entry_named txn xs)) ≡ (b || list_any (λ y. same_txn txn y.txn) xs)
      by rest true = refl
      by rest false = rest

  pub not_open-found : (entries : List Entry) → list_any (λ x. same_txn txn x.txn) entries ≡ false → entry_named txn entries ≡ None
  not_open-found [] h = refl
  not_open-found (x ∷ xs) h = by (not_open-found xs) (same_txn txn x.txn) h
    where
      by : (list_any (λ y. same_txn txn y.txn) xs ≡ false → entry_named txn xs ≡ None) → (b : Bool) → (b || list_any (λ y. same_txn txn y.txn) xs) ≡ false → cond b (Some x) (entry_named txn xs) ≡ None
      by rest true here = absurd (true≢false here)
      by rest false here = rest here

  -- no transaction has the name
  abbrev IsNoneNamed : List Entry → Type 0
  IsNoneNamed entries = AllByRecursion (λ name. same_txn txn name ≡ false) (names entries)

  module _ (change : Entry → Entry) where
    pub changed-none_named : (entries : List Entry) → IsNoneNamed entries → changed txn change entries ≡ entries
    changed-none_named [] h = refl
    changed-none_named (x ∷ xs) h =
        ap (λ b. (if b then change x else x) ∷ changed txn change xs) h.0 ∙ ap (λ es. x ∷ es) (changed-none_named xs h.1)

  -- two changes that are the same at the transaction that is found
  pub changed-agree : (f g : Entry → Entry) (entries : List Entry) (entry : Entry) → IsDistinct same_txn (names entries) → entry_named txn entries ≡ Some entry →
      f entry ≡ g entry → changed txn f entries ≡ changed txn g entries
  changed-agree f g [] entry distinct h e = refl
  changed-agree f g (x ∷ xs) entry distinct h e = by (changed-agree f g xs entry (IsDistinct-tail _ _ _ distinct)) (same_txn txn x.txn) refl h
    where
      by : (entry_named txn xs ≡ Some entry → f entry ≡ g entry → changed txn f xs ≡ changed txn g xs) → (b : Bool) → same_txn txn x.txn ≡ b → cond b (Some x) (entry_named txn xs) ≡ Some entry →
          (if b then f x else x) ∷ changed txn f xs ≡ (if b then g x else x) ∷ changed txn g xs
      by rest true same here =
          let is : x ≡ entry = cc in
          let none : IsNoneNamed xs = subst (λ t. AllByRecursion (λ name. same_txn t name ≡ false) (names xs)) (sym (same_txn-true txn x.txn same)) (IsDistinct-head _ _ _ distinct) in
          ap (λ es. f x ∷ es) (changed-none_named f xs none ∙ sym (changed-none_named g xs none)) ∙ ap (λ y. y ∷ changed txn g xs) (subst (λ y. f y ≡ g y) (sym is) e)
      by rest false same here = ap (λ es. x ∷ es) (rest here e)

  changed-same : (entries : List Entry) → changed txn (λ x. x) entries ≡ entries
  changed-same [] = refl
  changed-same (x ∷ xs) = by (same_txn txn x.txn) ∙ ap (λ es. x ∷ es) (changed-same xs)
    where
      by : (b : Bool) → (if b then x else x) ∷ changed txn (λ y. y) xs ≡ x ∷ changed txn (λ y. y) xs
      by true = refl
      by false = refl

  -- a change that leaves the one that is found leaves all
  pub changed-nothing : (f : Entry → Entry) (entries : List Entry) (entry : Entry) → IsDistinct same_txn (names entries) → entry_named txn entries ≡ Some entry →
      f entry ≡ entry → changed txn f entries ≡ entries
  changed-nothing f entries entry distinct h e = changed-agree f (λ x. x) entries entry distinct h e ∙ changed-same entries

  module _ (change : Entry → Entry) (keeps : (entry : Entry) → (change entry).txn ≡ entry.txn) where
    -- a change keeps the names
    pub names-changed : (entries : List Entry) → names (changed txn change entries) ≡ names entries
    names-changed [] = refl
    names-changed (x ∷ xs) = by (same_txn txn x.txn) ∙ ap (λ ts. x.txn ∷ ts) (names-changed xs)
      where
        by : (b : Bool) → (if b then change x else x).txn ∷ names (changed txn change xs) ≡ x.txn ∷ names (changed txn change xs)
        by true = ap (λ t. t ∷ names (changed txn change xs)) (keeps x)
        by false = refl

    -- the changed transaction is found
    pub entry_named-changed : (entries : List Entry) → entry_named txn (changed txn change entries) ≡ option_map change (entry_named txn entries)
    entry_named-changed [] = refl
    entry_named-changed (x ∷ xs) = by (entry_named-changed xs) (same_txn txn x.txn) refl
      where
        by : entry_named txn (changed txn change xs) ≡ option_map change (entry_named txn xs) → (b : Bool) → same_txn txn x.txn ≡ b →
            cond (same_txn txn (if b then change x else x).txn) (Some (if b then change x else x)) (entry_named txn (changed txn change xs)) ≡ option_map change (cond b (Some x) (entry_named txn xs))
        by rest true e = cond-true _ _ _ (ap (same_txn txn) (keeps x) ∙ e)
        by rest false e = cond-false _ _ _ e ∙ rest

    -- another one is found as it was
    pub entry_named-changed_other : (other : TxnId) (entries : List Entry) → same_txn txn other ≡ false → entry_named other (changed txn change entries) ≡ entry_named other entries
    entry_named-changed_other other [] h = refl
    entry_named-changed_other other (x ∷ xs) h = by (entry_named-changed_other other xs h) (same_txn txn x.txn) refl
      where
        by : entry_named other (changed txn change xs) ≡ entry_named other xs → (b : Bool) → same_txn txn x.txn ≡ b →
            cond (same_txn other (if b then change x else x).txn) (Some (if b then change x else x)) (entry_named other (changed txn change xs)) ≡ cond (same_txn other x.txn) (Some x) (entry_named other xs)
        by rest true e =
            let apart : same_txn other x.txn ≡ false = same_txn-symmetric other x.txn ∙ ap (λ t. same_txn t other) (sym (same_txn-true txn x.txn e)) ∙ h in
            cond-false _ _ _ (ap (same_txn other) (keeps x) ∙ apart) ∙ rest ∙ sym (cond-false _ _ _ apart)
        by rest false e = ap (cond (same_txn other x.txn) (Some x)) rest

  -- what holds of each, and of what each becomes
  pub All-changed : (P : Entry → Type 0) (change : Entry → Entry) (entries : List Entry) → All P entries → ((entry : Entry) → P entry → P (change entry)) → All P (changed txn change entries)
  All-changed P change [] all h = All-nil P
  All-changed P change (x ∷ xs) all h =
      All-cons P _ _ (by (same_txn txn x.txn)) (All-changed P change xs (All-tail P x xs all) h)
    where
      by : (b : Bool) → P (if b then change x else x)
      by true = h x (All-head P x xs all)
      by false = All-head P x xs all

  -- the same, where the one that is found becomes such
  pub All-changed_found : (P : Entry → Type 0) (change : Entry → Entry) (entries : List Entry) (entry : Entry) → All P entries → IsDistinct same_txn (names entries) →
      entry_named txn entries ≡ Some entry → P (change entry) → All P (changed txn change entries)
  All-changed_found P change entries entry all distinct found h =
      subst (All P) (sym (changed-agree change (λ _. change entry) entries entry distinct found refl)) (All-changed P (λ _. change entry) entries all (λ _ _. h))

-- one that passes a filter is found in it
pub entry_named-filter : (txn : TxnId) (p : Entry → Bool) (entries : List Entry) (entry : Entry) → entry_named txn entries ≡ Some entry → p entry ≡ true → entry_named txn (filter p entries) ≡ Some entry
entry_named-filter txn p [] entry h pass = absurd (cc)
entry_named-filter txn p (x ∷ xs) entry h pass = by (λ k. entry_named-filter txn p xs entry k pass) (same_txn txn x.txn) refl h (p x) refl
  where
    by : (entry_named txn xs ≡ Some entry → entry_named txn (filter p xs) ≡ Some entry) → (b : Bool) → same_txn txn x.txn ≡ b → cond b (Some x) (entry_named txn xs) ≡ Some entry →
        (c : Bool) → p x ≡ c → entry_named txn (cond c (x ∷ filter p xs) (filter p xs)) ≡ Some entry
    by rest true same here true q = cond-true _ _ _ same ∙ here
    by rest true same here false q = let is : x ≡ entry = cc in absurd (true≢false (sym pass ∙ ap p (sym is) ∙ q))
    by rest false same here true q = cond-false _ _ _ same ∙ rest here
    by rest false same here false q = rest here

-- ---- a transaction whose Decide is safe

module _ (txn : TxnId) (number : ℕ) where
  abbrev this : List Told
  this = record { number = number; txn = txn } ∷ []

  -- of transactions of other names none is removed
  without_told-none_named : (entries : List Entry) → AllByRecursion (λ name. same_txn txn name ≡ false) (names entries) → without_told this entries ≡ entries
  without_told-none_named [] h = refl
  without_told-none_named (x ∷ xs) h =
      cond-true _ _ _ (not_from_false _ (and_right _ _ (or_from _ _ h.0 refl))) ∙ ap (λ es. x ∷ es) (without_told-none_named xs h.1)

  without-none_named : (entries : List Entry) → AllByRecursion (λ name. same_txn txn name ≡ false) (names entries) → without txn entries ≡ entries
  without-none_named [] h = refl
  without-none_named (x ∷ xs) h = cond-true _ _ _ (not_from_false _ h.0) ∙ ap (λ es. x ∷ es) (without-none_named xs h.1)

  none_behind : (x : Entry) (xs : List Entry) → same_txn txn x.txn ≡ true → IsDistinct same_txn (names (x ∷ xs)) → AllByRecursion (λ name. same_txn txn name ≡ false) (names xs)
  none_behind x xs same distinct = subst (λ t. AllByRecursion (λ name. same_txn t name ≡ false) (names xs)) (sym (same_txn-true txn x.txn same)) (IsDistinct-head _ _ _ distinct)

  -- the one whose log number was told is removed
  pub without_told-logged : (entries : List Entry) → IsDistinct same_txn (names entries) → option_map_or (λ entry. is_logged entry.phase) (entry_named txn entries) false ≡ true →
      without_told this entries ≡ without txn entries
  without_told-logged [] distinct h = refl
  without_told-logged (x ∷ xs) distinct h = by (without_told-logged xs (IsDistinct-tail _ _ _ distinct)) (same_txn txn x.txn) refl h
    where
      by : (option_map_or (λ entry. is_logged entry.phase) (entry_named txn xs) false ≡ true → without_told this xs ≡ without txn xs) → (b : Bool) → same_txn txn x.txn ≡ b →
          option_map_or (λ entry. is_logged entry.phase) (cond b (Some x) (entry_named txn xs)) false ≡ true →
          cond (not (is_logged x.phase && (b || false))) (x ∷ without_told this xs) (without_told this xs) ≡ cond (not b) (x ∷ without txn xs) (without txn xs)
      by rest true same logged =
          cond-false _ _ _ (not_from_true _ (and_from _ _ logged refl)) ∙ without_told-none_named xs (none_behind x xs same distinct) ∙ sym (without-none_named xs (none_behind x xs same distinct))
      by rest false same logged = cond-true _ _ _ (not_from_false _ (and_right _ _ refl)) ∙ ap (λ es. x ∷ es) (rest logged)

  -- any other one stays
  pub without_told-not_logged : (entries : List Entry) → IsDistinct same_txn (names entries) → option_map_or (λ entry. is_logged entry.phase) (entry_named txn entries) false ≡ false →
      without_told this entries ≡ entries
  without_told-not_logged [] distinct h = refl
  without_told-not_logged (x ∷ xs) distinct h = by (without_told-not_logged xs (IsDistinct-tail _ _ _ distinct)) (same_txn txn x.txn) refl h
    where
      by : (option_map_or (λ entry. is_logged entry.phase) (entry_named txn xs) false ≡ false → without_told this xs ≡ xs) → (b : Bool) → same_txn txn x.txn ≡ b →
          option_map_or (λ entry. is_logged entry.phase) (cond b (Some x) (entry_named txn xs)) false ≡ false →
          cond (not (is_logged x.phase && (b || false))) (x ∷ without_told this xs) (without_told this xs) ≡ x ∷ xs
      by rest true same not_logged = cond-true _ _ _ (not_from_false _ (and_left _ _ not_logged)) ∙ ap (λ es. x ∷ es) (without_told-none_named xs (none_behind x xs same distinct))
      by rest false same not_logged = cond-true _ _ _ (not_from_false _ (and_right _ _ refl)) ∙ ap (λ es. x ∷ es) (rest not_logged)

-- one more in the end
is_told-push : (txn : TxnId) (tolds : List Told) (more : Told) → is_told txn (tolds ++ more ∷ []) ≡ (is_told txn tolds || (same_txn more.txn txn || false))
is_told-push txn tolds more = list_any-append (λ told. same_txn told.txn txn) tolds (more ∷ [])

-- one after another, transactions are removed as all at once
pub without_told-more : (tolds : List Told) (more : Told) (entries : List Entry) → without_told (more ∷ []) (without_told tolds entries) ≡ without_told (tolds ++ more ∷ []) entries
without_told-more tolds more [] = refl
without_told-more tolds more (x ∷ xs) =
    by (without_told-more tolds more xs) (is_logged x.phase) refl (is_told x.txn tolds) (same_txn more.txn x.txn || false) refl
    ∙ ap (λ b. cond (not (is_logged x.phase && b)) (x ∷ without_told (tolds ++ more ∷ []) xs) (without_told (tolds ++ more ∷ []) xs)) (sym (is_told-push x.txn tolds more))
  where
    by : without_told (more ∷ []) (without_told tolds xs) ≡ without_told (tolds ++ more ∷ []) xs → (l : Bool) → is_logged x.phase ≡ l → (c d : Bool) → (same_txn more.txn x.txn || false) ≡ d →
        without_told (more ∷ []) (cond (not (l && c)) (x ∷ without_told tolds xs) (without_told tolds xs))
        ≡ cond (not (l && (c || d))) (x ∷ without_told (tolds ++ more ∷ []) xs) (without_told (tolds ++ more ∷ []) xs)
    by rest false e c d f = cond-true _ _ _ (not_from_false _ (and_left _ _ e)) ∙ ap (λ es. x ∷ es) rest
    by rest true e true d f = rest
    by rest true e false true f = cond-false _ _ _ (not_from_true _ (and_from _ _ e f)) ∙ rest
    by rest true e false false f = cond-true _ _ _ (not_from_false _ (and_right _ _ f)) ∙ ap (λ es. x ∷ es) rest

-- where none is safe, none is removed
pub without_told-nil : (entries : List Entry) → without_told [] entries ≡ entries
without_told-nil [] = refl
without_told-nil (x ∷ xs) = cond-true _ _ _ (not_from_false _ (and_right _ _ refl)) ∙ ap (λ es. x ∷ es) (without_told-nil xs)

-- one more is removed
pub without_told-next : (tolds : List Told) (index : ℕ) (told : Told) (entries before after : List Entry) → index < length tolds → told ≡ get_or (drop index tolds) 0 told →
    before ≡ without_told (take index tolds) entries → after ≡ without_told (told ∷ []) before → after ≡ without_told (take (index + 1) tolds) entries
without_told-next tolds index told entries before after within at e f =
    f ∙ ap (without_told (told ∷ [])) e ∙ without_told-more (take index tolds) told entries
    ∙ ap (λ ts. without_told ts entries) (ap (λ t. take index tolds ++ t ∷ []) (at ∙ get_or-drop index tolds 0 told ∙ ap (λ i. get_or tolds i told) (add-zero index)) ∙ sym (take_more tolds index told within))

-- what is not open does not change
pub changed-absent : (txn : TxnId) (change : Entry → Entry) (entries : List Entry) → entry_named txn entries ≡ None → changed txn change entries ≡ entries
changed-absent txn change [] h = refl
changed-absent txn change (x ∷ xs) h = by (changed-absent txn change xs) (same_txn txn x.txn) h
  where
    by : (entry_named txn xs ≡ None → changed txn change xs ≡ xs) → (b : Bool) → cond b (Some x) (entry_named txn xs) ≡ None → (if b then change x else x) ∷ changed txn change xs ≡ x ∷ xs
    by rest true none = absurd (cc)
    by rest false none = ap (λ es. x ∷ es) (rest none)
