-- What stands at the place of a write, at that place alone.
use Rattle.std.proofs.Common.{◌≡◌, ◌<◌, ◌≤◌, ◌⊎◌, false, sym, ◌∙◌, subst}
use Rattle.std.proofs.lemmas.Bool.{false≢true}
use Rattle.cl_types.specs.Places.{Place, Stored, same_place}
use Rattle.cl_types.proofs.Places.{same_place-true}
use Rattle.cl_log.specs.LogEntry.{LogEntry}
use Rattle.cl_log.specs.Kind.{writes, number_before}
use Rattle.cl_redo.specs.Condition.{MeetsWrite}

-- a write is met where it is met at its own place
pub MeetsWrite-at : (stored : Place → Stored) (entry : LogEntry) (own : Place) → ((place : Place) → writes place entry.content ≡ same_place own place) →
    number_before entry.content < entry.number → ((stored own).0 ≡ number_before entry.content) ⊎ (entry.number ≤ (stored own).0) →
    MeetsWrite stored entry
MeetsWrite-at stored entry own here before guard = record {
  before = λ place write. before;
  guard = λ place write. subst (λ p. ((stored p).0 ≡ number_before entry.content) ⊎ (entry.number ≤ (stored p).0)) (same_place-true own place (sym (here place) ∙ write)) guard;
}

-- what writes nothing is met
pub MeetsWrite-none : (stored : Place → Stored) (entry : LogEntry) → ((place : Place) → writes place entry.content ≡ false) → MeetsWrite stored entry
MeetsWrite-none stored entry none = record {
  before = λ place write. absurd (false≢true (sym (none place) ∙ write));
  guard = λ place write. absurd (false≢true (sym (none place) ∙ write));
}
