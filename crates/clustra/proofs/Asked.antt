-- What the words of the command line ask for.
use Rattle.std.proofs.Common.{◌≡◌, ◌⊎◌, ◌↔◌, ℕ, ◌<◌, ◌≤◌, leb, Bool, true, false, cond, List, [], ◌∷◌, length, map, drop, get_or, Option, Some, None, IsSome, codes, slice_get, unwrap_or, inl, inr, refl, sym, ap, subst, ◌∙◌, arith}
use Rattle.std.specs.Fmt.{decimal}
use Rattle.std.specs.Str.{bytes_eq}
use Rattle.std.proofs.lemmas.Bool.{and_from, and_parts, both_ways, cases_eq, le-leb, leb-true}
use Rattle.std.proofs.lemmas.Fmt.{decimal_injective}
use Rattle.std.proofs.lemmas.Slice.Eq.{bytes_eq-Decides}
use Rattle.cl_schedule.specs.declared.setting.Setting.{Setting}
use Rattle.std.specs.Prelude.{IfSome}
use Rattle.cl_types.specs.Decimal.{natural_64}
use Rattle.cl_types.specs.Names.{is_between}
use Rattle.cl_types.proofs.DecimalLaws.{natural_64-decimal, natural_64-text}
use Rattle.clustra.specs.Counting.{turns_in}
use Rattle.clustra.specs.Run.{IsEndStatus, IsStatus}
use Rattle.clustra.specs.Words.{AreAsked, AreReplay, AreServe, ReadsWords, setting_with, step_words}
use Rattle.clustra.specs.declared.limits.TheConstants.{TURNS_MAX}
use Rattle.clustra.specs.declared.ended.TheConstants.{NO_MEMORY, USAGE}

-- texts that pass the comparison are one
pub same_text : (xs ys : List ℕ) → bytes_eq xs ys ≡ true → xs ≡ ys
same_text xs ys h = (bytes_eq-Decides xs ys).0 h

-- and those that fail it are two
pub other_text : (xs ys : List ℕ) → bytes_eq xs ys ≡ false → xs ≡ ys → ⊥
other_text xs ys fails same = let is : bytes_eq xs ys ≡ true = (bytes_eq-Decides xs ys).1 same in absurd (both_ways (bytes_eq xs ys) fails is)

-- a list of one item
single : {X : Type 0} (view : X → List ℕ) (list : List X) (x : X) (text : List ℕ) → 1 ≤ length list → length list < 2 → x ≡ get_or list 0 x → view x ≡ text →
    map view list ≡ text ∷ []
single view [] x text some few first same = absurd (omega arith)
single view (y ∷ []) x text some few first same = ap (λ z. z ∷ []) (ap view (sym first) ∙ same)
single view (y ∷ z ∷ list) x text some few first same = absurd (omega arith)

one_step : (words : List (List ℕ)) (step : Bool) → words ≡ codes "--step" ∷ [] →
    (◌≡◌ {A = Option Bool} (Some true) (Some step) → words ≡ step_words step) × (words ≡ step_words step → ◌≡◌ {A = Option Bool} (Some true) (Some step))
one_step words true is = (λ same. is, λ same. refl)
one_step words false is = (λ same. absurd (cc), λ same. let no : codes "--step" ∷ [] ≡ [] = sym is ∙ same in absurd (cc))

-- the only word is the one that was compared
pub step_of_one : {X : Type 0} (view : X → List ℕ) (list : List X) (x : X) (step : Bool) → 1 ≤ length list → length list < 2 → x ≡ get_or list 0 x →
    view x ≡ codes "--step" →
    (◌≡◌ {A = Option Bool} (Some true) (Some step) → map view list ≡ step_words step) ×
    (map view list ≡ step_words step → ◌≡◌ {A = Option Bool} (Some true) (Some step))
step_of_one view list x step some few first same = one_step (map view list) step (single view list x (codes "--step") some few first same)

-- three words and more

three : {X : Type 0} (view : X → List ℕ) (list : List X) (a b n : X) → 3 ≤ length list → a ≡ get_or list 0 a → b ≡ get_or list 1 b → n ≡ get_or list 2 n →
    map view list ≡ view a ∷ view b ∷ view n ∷ map view (drop 3 list)
three view [] a b n some first second third = absurd (omega arith)
three view (x ∷ []) a b n some first second third = absurd (omega arith)
three view (x ∷ y ∷ []) a b n some first second third = absurd (omega arith)
three view (x ∷ y ∷ z ∷ list) a b n some first second third = let p : x ≡ a = sym first in let q : y ≡ b = sym second in let r : z ≡ n = sym third in cc

within_one : (low high n : ℕ) → is_between low high n ≡ true → (low ≤ n) × (n ≤ high)
within_one low high n is = let both = and_parts (leb low n) (leb n high) is in (leb-true low n both.0, leb-true n high both.1)

one_within : (low high n : ℕ) → low ≤ n → n ≤ high → is_between low high n ≡ true
one_within low high n some few = and_from (leb low n) (leb n high) (le-leb low n some) (le-leb n high few)

turns_some : (n turns : ℕ) (b : Bool) → is_between 1 TURNS_MAX n ≡ b → cond b (Some n) None ≡ Some turns → (n ≡ turns) × (is_between 1 TURNS_MAX n ≡ true)
turns_some n turns true is same = (cc, is)
turns_some n turns false is same = absurd (cc)

-- a number of turns that was read is printed as the word
turns_read : (word : List ℕ) (read : Option ℕ) (turns : ℕ) → read ≡ natural_64 word → turns_in read ≡ Some turns →
    (1 ≤ turns) × ((turns ≤ TURNS_MAX) × (word ≡ decimal turns))
turns_read word None turns reads is = absurd (cc)
turns_read word (Some n) turns reads is =
    let some = turns_some n turns (is_between 1 TURNS_MAX n) refl is in
    let both = within_one 1 TURNS_MAX n some.1 in
    let low : 1 ≤ turns = omega (arith, some.0, both.0) in
    let high : turns ≤ TURNS_MAX = omega (arith, some.0, both.1) in
    (low, (high, (natural_64-text word turns (sym reads ∙ ap Some some.0)).0))

-- the words of `replay`
pub replay_asks : {X : Type 0} (view : X → List ℕ) (list rest : List X) (a b n : X) (turns : ℕ) (step : Bool) (setting : Setting) → 3 ≤ length list →
    a ≡ get_or list 0 a → b ≡ get_or list 1 b → n ≡ get_or list 2 n →
    view a ≡ codes "replay" → view b ≡ codes "--turns" → turns_in (natural_64 (view n)) ≡ Some turns → rest ≡ drop 3 list → map view rest ≡ step_words step →
    setting ≡ setting_with turns step → AreReplay (map view list) setting
replay_asks view list rest a b n turns step setting some first second third replay option reads others steps is =
    let number = turns_read (view n) (natural_64 (view n)) turns refl reads in
    record {
      turns = turns;
      step = step;
      some = number.0;
      within = number.1.0;
      words_are = let tail : map view (drop 3 list) ≡ step_words step = ap (map view) (sym others) ∙ steps in
          three view list a b n some first second third
          ∙ ap (λ w. w ∷ view b ∷ view n ∷ map view (drop 3 list)) replay
          ∙ ap (λ w. codes "replay" ∷ w ∷ view n ∷ map view (drop 3 list)) option
          ∙ ap (λ w. codes "replay" ∷ codes "--turns" ∷ w ∷ map view (drop 3 list)) number.1.1
          ∙ ap (λ w. codes "replay" ∷ codes "--turns" ∷ decimal turns ∷ w) tail;
      setting_is = is;
    }

third_word : (a b n x y z : List ℕ) (rest more : List (List ℕ)) → ◌≡◌ {A = List (List ℕ)} (a ∷ b ∷ n ∷ rest) (x ∷ y ∷ z ∷ more) → n ≡ z
third_word a b n x y z rest more same = cc

turns_printed : (turns : ℕ) → 1 ≤ turns → turns ≤ TURNS_MAX → turns_in (natural_64 (decimal turns)) ≡ Some turns
turns_printed turns some few =
    ap turns_in (natural_64-decimal turns (omega arith)) ∙ ap (λ b. cond b (Some turns) None) (one_within 1 TURNS_MAX turns some few)

-- words whose third is no number of turns are not those of `replay`
pub no_turns : {X : Type 0} (view : X → List ℕ) (list : List X) (a b n : X) (result : Option Setting) → 3 ≤ length list → a ≡ get_or list 0 a →
    b ≡ get_or list 1 b → n ≡ get_or list 2 n →
    None ≡ turns_in (natural_64 (view n)) → result ≡ None → ReadsWords (AreReplay (map view list)) result
no_turns view list a b n result some first second third none is =
    subst (λ (r : Option Setting). ReadsWords (AreReplay (map view list)) r) (sym is)
    (λ setting ask.
    let word : view n ≡ decimal ask.turns = third_word _ _ _ _ _ _ _ _ (sym (three view list a b n some first second third) ∙ ask.words_are) in
    let no' : None ≡ Some ask.turns = none ∙ ap (λ w. turns_in (natural_64 w)) word ∙ turns_printed ask.turns ask.some ask.within in
    absurd (cc))

-- words ask for one setting

step_only : (a b : Bool) → step_words a ≡ step_words b → a ≡ b
step_only true true same = refl
step_only true false same = absurd (cc)
step_only false true same = absurd (cc)
step_only false false same = refl

pub serve_only : (words : List (List ℕ)) (a b : Setting) → AreServe words a → AreServe words b → a ≡ b
serve_only words a b x y =
    let same : ◌≡◌ {A = List (List ℕ)} (codes "serve" ∷ step_words x.step) (codes "serve" ∷ step_words y.step) = sym x.words_are ∙ y.words_are in
    let steps : step_words x.step ≡ step_words y.step = ap (drop 1) same in
    x.setting_is ∙ ap (setting_with TURNS_MAX) (step_only x.step y.step steps) ∙ sym y.setting_is

pub replay_only : (words : List (List ℕ)) (a b : Setting) → AreReplay words a → AreReplay words b → a ≡ b
replay_only words a b x y =
    let same : ◌≡◌ {A = List (List ℕ)} (codes "replay" ∷ codes "--turns" ∷ decimal x.turns ∷ step_words x.step)
    (codes "replay" ∷ codes "--turns" ∷ decimal y.turns ∷ step_words y.step) = sym x.words_are ∙ y.words_are in
    let steps : step_words x.step ≡ step_words y.step = ap (drop 3) same in
    let printed : decimal x.turns ≡ decimal y.turns = third_word _ _ _ _ _ _ _ _ same in
    let few = x.within in
    let few' = y.within in
    x.setting_is ∙ ap (λ t. setting_with t x.step) (decimal_injective x.turns y.turns (omega arith) (omega arith) printed)
    ∙ ap (setting_with y.turns) (step_only x.step y.step steps) ∙ sym y.setting_is

-- what was asked for

pub usage_of : (Ask : Setting → Type 0) (o : Option Setting) (status : ℕ) → ReadsWords Ask o → (status ≡ USAGE) ↔ (o ≡ None) →
    (status ≡ USAGE) ↔ ((setting : Setting) → Ask setting → ⊥)
usage_of Ask None status reads usage = (λ refused. reads, λ none. usage.1 refl)
usage_of Ask (Some s) status reads usage = (λ refused. absurd (let no' : Some s ≡ None = usage.0 refused in cc), λ none. absurd (none s reads))

-- which of the two the words may be, by the first of them

first_text : (a b : List ℕ) (xs ys : List (List ℕ)) → ◌≡◌ {A = List (List ℕ)} (a ∷ xs) (b ∷ ys) → a ≡ b
first_text a b xs ys same = cc

first_word : {X : Type 0} (view : X → List ℕ) (list : List X) (x : X) (word : List ℕ) (rest : List (List ℕ)) → slice_get list 0 ≡ Some x →
    map view list ≡ word ∷ rest → view x ≡ word
first_word view [] x word rest at is = absurd (cc)
first_word view (y ∷ list) x word rest at is =
    let same : y ≡ x = ap (λ found. unwrap_or found y) at in
    ap view (sym same) ∙ first_text (view y) word (map view list) rest is

pub replay_is_no_serve : {X : Type 0} (view : X → List ℕ) (list : List X) (x : X) (setting : Setting) → slice_get list 0 ≡ Some x → view x ≡ codes "replay" →
    AreServe (map view list) setting → ⊥
replay_is_no_serve view list x setting at replay ask =
    let same : codes "replay" ≡ codes "serve" = sym replay ∙ first_word view list x (codes "serve") (step_words ask.step) at ask.words_are in
    let no : 6 ≡ 5 = ap (λ (word : List ℕ). length word) same in
    absurd (omega (arith, no))

pub other_is_no_replay : {X : Type 0} (view : X → List ℕ) (list : List X) (x : X) (setting : Setting) → slice_get list 0 ≡ Some x →
    (view x ≡ codes "replay" → ⊥) → AreReplay (map view list) setting → ⊥
other_is_no_replay view list x setting at other ask =
    other (first_word view list x (codes "replay") (codes "--turns" ∷ decimal ask.turns ∷ step_words ask.step) at ask.words_are)

pub none_is_no_replay : {X : Type 0} (view : X → List ℕ) (list : List X) (setting : Setting) → slice_get list 0 ≡ None → AreReplay (map view list) setting → ⊥
none_is_no_replay view [] setting at ask = let no : [] ≡ codes "replay" ∷ codes "--turns" ∷ decimal ask.turns ∷ step_words ask.step = ask.words_are in absurd (cc)
none_is_no_replay view (y ∷ list) setting at ask = absurd (cc)

-- who refuses what is not of the one refuses what is of neither, where it is not of the other

pub usage_of_serve : (words : List (List ℕ)) (status : ℕ) → ((setting : Setting) → AreReplay words setting → ⊥) →
    (status ≡ USAGE) ↔ ((setting : Setting) → AreServe words setting → ⊥) → (status ≡ USAGE) ↔ ((setting : Setting) → AreAsked words setting → ⊥)
usage_of_serve words status other usage = (
  λ refused setting asked. elim asked [ inl is ↦ usage.0 refused setting is | inr is ↦ other setting is ],
  λ none. usage.1 (λ setting is. none setting (inl is)),
)

pub usage_of_replay : (words : List (List ℕ)) (status : ℕ) → ((setting : Setting) → AreServe words setting → ⊥) →
    (status ≡ USAGE) ↔ ((setting : Setting) → AreReplay words setting → ⊥) → (status ≡ USAGE) ↔ ((setting : Setting) → AreAsked words setting → ⊥)
usage_of_replay words status other usage = (
  λ refused setting asked. elim asked [ inl is ↦ other setting is | inr is ↦ usage.0 refused setting is ],
  λ none. usage.1 (λ setting is. none setting (inr is)),
)

pub asked_for : (Ask : Setting → Type 0) (o : Option Setting) → ReadsWords Ask o → IsSome o → (setting : Setting) × Ask setting
asked_for Ask None reads some = absurd (cc)
asked_for Ask (Some s) reads some = (s, reads)

pub ran_asked : (Ask : Setting → Type 0) (Ran : Setting → Type 0) (o : Option Setting) → ((a b : Setting) → Ask a → Ask b → a ≡ b) → ReadsWords Ask o →
    IfSome o Ran → (setting : Setting) → Ask setting → Ran setting
ran_asked Ask Ran None only reads ran setting ask = absurd (reads setting ask)
ran_asked Ask Ran (Some s) only reads ran setting ask = subst (λ (t : Setting). Ran t) (only s setting reads ask) ran

not_usage : (status : ℕ) → IsEndStatus status → status ≡ USAGE → ⊥
not_usage status (inl a) same = absurd (omega (arith, a, same))
not_usage status (inr (inl a)) same = absurd (omega (arith, a, same))
not_usage status (inr (inr (inl a))) same = absurd (omega (arith, a, same))
not_usage status (inr (inr (inr (inl a)))) same = absurd (omega (arith, a, same))
not_usage status (inr (inr (inr (inr (inl a))))) same = absurd (omega (arith, a, same))
not_usage status (inr (inr (inr (inr (inr (inl a)))))) same = absurd (omega (arith, a, same))
not_usage status (inr (inr (inr (inr (inr (inr a)))))) same = absurd (omega (arith, a, same))

-- a run that was asked for is not refused
pub usage_some : (setting : Setting) (status : ℕ) → IsEndStatus status → (status ≡ USAGE) ↔ (Some setting ≡ None)
usage_some setting status ended = (λ refused. absurd (not_usage status ended refused), λ none. absurd (cc))

pub unkept_some : (status : ℕ) {P : Type 0} → IsEndStatus status → status ≡ USAGE → P
unkept_some status ended refused = absurd (not_usage status ended refused)

pub asked_if : {A : Type 0} (kept : Option A) (Ask : Setting → Type 0) (o : Option Setting) → ReadsWords Ask o → IfSome kept (λ k. IsSome o) →
    IfSome kept (λ k. (setting : Setting) × Ask setting)
asked_if None Ask o reads some = tt
asked_if (Some k) Ask o reads some = asked_for Ask o reads some

pub ran_some : {A : Type 0} (kept : Option A) (Ask Asked : Setting → Type 0) (Ran : Setting → A → Type 0) → ((setting : Setting) → Ask setting → Asked setting) →
    IfSome kept (λ k. (setting : Setting) × Ask setting) → ((setting : Setting) → Ask setting → IfSome kept (Ran setting)) →
    IfSome kept (λ k. (setting : Setting) × Asked setting × Ran setting k)
ran_some None Ask Asked Ran by asked ran = tt
ran_some (Some k) Ask Asked Ran by asked ran = (asked.0, by asked.0 asked.1, ran asked.0 asked.1)

-- what the program did, by what is kept
pub program_ran : {S K A : Type 0} (words : List (List ℕ)) (source source' : S) (sink sink' : K) (kept : Option A) (status code : ℕ)
    (Ran : ℕ → Setting → A → Type 0) →
    code ≡ status → (code ≡ USAGE → ⊥) →
    (kept ≡ None → (source' ≡ source) × (sink' ≡ sink) × ((status ≡ USAGE) ⊎ (status ≡ NO_MEMORY))) →
    IfSome kept (λ k. (setting : Setting) × AreAsked words setting × Ran status setting k) →
    ((code ≡ NO_MEMORY) × (source' ≡ source) × (sink' ≡ sink)) ⊎
    ((words : List (List ℕ)) × (setting : Setting) × (k : A) × AreAsked words setting × Ran code setting k)
program_ran words source source' sink sink' None status code Ran same begun untouched ran =
    let none = untouched refl in
    elim none.2 [
      | inl usage ↦ absurd (begun (same ∙ usage))
      | inr short ↦ inl (same ∙ short, none.0, none.1)
    ]
program_ran words source source' sink sink' (Some k) status code Ran same begun untouched ran =
    inr (words, ran.0, k, ran.1, subst (λ c. Ran c ran.0 k) (sym same) ran.2)

-- the status of the program, by that of its run
pub program_status : (status code : ℕ) → code ≡ status → ((status ≡ USAGE → ⊥) → IsEndStatus status) → IsStatus code
program_status status code same ends =
    subst IsStatus (sym same) (elim (cases_eq status USAGE) [ inl usage ↦ inl usage | inr other ↦ inr (ends other) ])
