-- What is told of the records that a step appends.
use Rattle.std.proofs.Common.{◌≡◌, ℕ, ◌+◌, ◌-◌, ◌<◌, ◌≤◌, nat_lt, nat_le, Bool, false, ◌&&◌, List, [], ◌∷◌, ◌++◌, filter, fold, All, Option, Some, None, refl, sym, ◌∙◌, ap, arith}
use Rattle.std.proofs.lemmas.Bool.{le-ltb, lt-ltb, le-leb, and_left, and_from, cond-true}
use Rattle.std.proofs.lemmas.List.{append-nil, append_assoc}
use Rattle.std.proofs.lemmas.List.Elements.{All-nil, All-head, All-tail, All-push, All-weaker, All-filter, filter-append}
use Rattle.cl_log.specs.declared.records.LogRec.{LogRec}
use Rattle.cl_log.specs.LogEntry.{LogEntry}
use Rattle.cl_control.proofs.Waiters.{filter-none}
use Rattle.cl_part.specs.State.{State, next_entry, after_record, after_optional}
use Rattle.cl_repair.specs.declared.mode.Mode.{Mode}
use Rattle.cl_repair.specs.declared.mode.Mode.TheVariants.{Lone}
use Rattle.cl_repair.specs.Modes.{safe_in}
use Rattle.cl_vnode.specs.Replica.{ReplicaState, safe_number}
use Rattle.cl_vnode.specs.Step.{Stepped, told, entry_told, all_told}

-- each record has a number below the next one, which is 1 at least
pub record IsBelow (part : State) : Type 0 where
  pub below : All (λ entry. entry.number < part.next) part.log
  pub numbered : 1 ≤ part.next

-- nothing is told of the record
abbrev pub IsPlain : LogRec → Type 0
IsPlain content = (primary : ℕ → ℕ) (done : Stepped) (number : ℕ) → told primary done number content ≡ done

-- records were appended of which nothing is told
pub record HasGrown (before after : State) : Type 0 where
  pub news : List LogEntry
  pub log : after.log ≡ before.log ++ news
  pub plain : All (λ entry. IsPlain entry.content) news
  pub below : IsBelow after

pub below-record : (part : State) (content : LogRec) → IsBelow part → IsBelow (after_record part content)
unfolding after_record
below-record part content is = record {
  below = All-push (λ entry. entry.number < part.next + 1) part.log (next_entry part content)
      (All-weaker (λ entry. entry.number < part.next) (λ entry. entry.number < part.next + 1) (λ entry h. omega (arith, h)) part.log is.below) (omega arith);
  numbered = omega (arith, is.numbered);
}

pub grown-none : (part : State) → IsBelow part → HasGrown part part
grown-none part is = record { news = []; log = sym (append-nil part.log); plain = All-nil (λ entry. IsPlain entry.content); below = is }

pub grown-record : (before part : State) (content : LogRec) → IsPlain content → HasGrown before part → HasGrown before (after_record part content)
unfolding after_record
grown-record before part content plain grown = record {
  news = grown.news ++ next_entry part content ∷ [];
  log = ap (λ (log : List LogEntry). log ++ next_entry part content ∷ []) grown.log ∙ append_assoc before.log grown.news (next_entry part content ∷ []);
  plain = All-push (λ entry. IsPlain entry.content) grown.news (next_entry part content) grown.plain plain;
  below = below-record part content grown.below;
}

pub grown-optional : (before part : State) (left : Option LogRec) → ((content : LogRec) → left ≡ Some content → IsPlain content) → HasGrown before part → HasGrown before (after_optional part left)
grown-optional before part None plain grown = grown
grown-optional before part (Some content) plain grown = grown-record before part content (plain content refl) grown

-- ---- what became safe

safe_alone : (state : ReplicaState) → state.modes.mode ≡ Lone → safe_number state ≡ state.part.next - 1
safe_alone state alone = ap (λ (mode : Mode). safe_in mode state.modes.acked (state.part.next - 1)) alone

all_plain : (primary : ℕ → ℕ) (done : Stepped) (entries : List LogEntry) → All (λ entry. IsPlain entry.content) entries → fold (entry_told primary) done entries ≡ done
all_plain primary done [] plain = refl
all_plain primary done (entry ∷ entries) plain =
    ap (λ (d : Stepped). fold (entry_told primary) d entries) (All-head (λ e. IsPlain e.content) entry entries plain primary done entry.number)
    ∙ all_plain primary done entries (All-tail (λ e. IsPlain e.content) entry entries plain)

module _ (primary : ℕ → ℕ) (state : ReplicaState) (is : IsBelow state.part) (alone : state.modes.mode ≡ Lone) (done : Stepped) where
  -- the entry becomes safe in the step
  abbrev is_new : LogEntry → Bool
  is_new entry = nat_lt (safe_number state) entry.number && nat_le entry.number (safe_number done.state)

  last : safe_number state ≡ state.part.next - 1
  last = safe_alone state alone

  -- nothing that was in the log before does
  none_newly : filter is_new state.part.log ≡ []
  none_newly =
      filter-none is_new state.part.log
      (All-weaker (λ entry. entry.number < state.part.next) (λ entry. is_new entry ≡ false)
      (λ entry h. and_left _ _ (le-ltb (safe_number state) entry.number (omega (arith, h, last, is.numbered)))) state.part.log is.below)

  newly : (news : List LogEntry) → done.state.part.log ≡ state.part.log ++ news → all_told primary (safe_number state) done ≡ fold (entry_told primary) done (filter is_new news)
  unfolding all_told
  newly news log =
      ap (λ (entries : List LogEntry). fold (entry_told primary) done (filter is_new entries)) log
      ∙ ap (fold (entry_told primary) done) (filter-append is_new state.part.log news ∙ ap (λ (entries : List LogEntry). entries ++ filter is_new news) none_newly)

  -- of these records nothing is told
  pub none_told : HasGrown state.part done.state.part → all_told primary (safe_number state) done ≡ done
  none_told grown = newly grown.news grown.log ∙ all_plain primary done (filter is_new grown.news) (All-filter is_new (λ entry. IsPlain entry.content) grown.news grown.plain)

  -- the one record that was appended is told
  pub one_told : (content : LogRec) → done.state.modes.mode ≡ Lone → done.state.part ≡ after_record state.part content →
      all_told primary (safe_number state) done ≡ told primary done state.part.next content
  unfolding after_record
  one_told content still appended =
      let entry : LogEntry = next_entry state.part content in
      let next : done.state.part.next ≡ state.part.next + 1 = ap (λ (part : State). part.next) appended in
      let now : safe_number done.state ≡ done.state.part.next - 1 = safe_alone done.state still in
      newly (entry ∷ []) (ap (λ (part : State). part.log) appended)
      ∙ ap (fold (entry_told primary) done)
      (cond-true (is_new entry) (entry ∷ []) []
      (and_from _ _ (lt-ltb (safe_number state) entry.number (omega (arith, last, is.numbered))) (le-leb entry.number (safe_number done.state) (omega (arith, now, next)))))
