-- A front at rest has answered every line.
use Rattle.std.proofs.Common.{◌≡◌, ℕ, zero, suc, ◌-◌, ◌<◌, ◌≤◌, ◌⊎◌, inl, inr, Bool, true, false, not, List, [], ◌∷◌, map, drop, length, refl, sym, arith}
use Rattle.std.specs.List.{list_any, slice_index_or}
use Rattle.std.proofs.lemmas.Bool.{or_parts, cases_lt}
use Rattle.cl_exchange.specs.Laws.{IsSoundWorld}
use Rattle.cl_exchange.specs.Stage.{view_of}
use Rattle.cl_front.specs.Front.{is_answered}
use Rattle.cl_front.specs.Session.{SessionState, no_session, is_busy}
use Rattle.cl_front.specs.Sessions.{session_in}
use Rattle.cl_runs.specs.World.{Shape}
use Rattle.cl_serial.specs.Serial.{EveryLineAnswered}
use Rattle.cl_serial.specs.Transcript.{questions, answers}
use Rattle.cl_shown.proofs.Answered.{each_answered}
use Rattle.cl_shown.proofs.Entries.{IsWell}
use Rattle.cl_shown.proofs.Fronts.{idle_at}
use Rattle.cl_shown.proofs.Gathers.{no_questions}
use Rattle.cl_system.specs.Replicas.{ReplicaWorld}
use Rattle.cl_told.specs.Told.{SessionsAreTold, pending, told_session}
use Rattle.cl_types.specs.declared.limits.TheConstants.{SESSIONS_MAX}
use Rattle.cl_types.specs.declared.operations.Command.{Command}

-- no session is busy where none is
none_busy : (sessions : List SessionState) (i : ℕ) → list_any is_busy sessions ≡ false → is_busy (slice_index_or sessions i no_session) ≡ false
none_busy [] i none = refl
none_busy (session ∷ sessions) zero none = (or_parts (is_busy session) (list_any is_busy sessions) none).0
none_busy (session ∷ sessions) (suc i) none = none_busy sessions i (or_parts (is_busy session) (list_any is_busy sessions) none).1

not_true : (b : Bool) → not b ≡ true → b ≡ false
not_true true is = sym is
not_true false is = refl

-- of no command, none is left
none_of_none : (asked : List (Command × ℕ)) (n : ℕ) → asked ≡ [] → map (λ (question : Command × ℕ). question.0) (drop n asked) ≡ []
none_of_none [] zero none = refl
none_of_none [] (suc n) none = refl
none_of_none (question ∷ asked) n none = absurd cc

module _ (shape : Shape) (world : ReplicaWorld) (sound : IsSoundWorld shape world) (told : SessionsAreTold shape world)
    (rest : is_answered world.front ≡ true) where
  idle : (s : ℕ) → is_busy (session_in world.front.sessions s) ≡ false
  idle s = none_busy world.front.sessions (s - 1) (not_true (list_any is_busy world.front.sessions) rest)

  none_pending : (s : ℕ) → 1 ≤ s → s ≤ SESSIONS_MAX → pending s world.front.transcript ≡ []
  none_pending s from to =
      let at = sound.stages s from to in
      (idle_at shape.nodes s (view_of shape.nodes world s) (pending s world.front.transcript) (told_session s world.front.transcript)
      at.0 at.1 ((told s from to).tells at.0 at.1) (or_parts _ _ (idle s)).0).none_left

  outside_none : (s : ℕ) → ((1 ≤ s) × (s ≤ SESSIONS_MAX) → ⊥) → pending s world.front.transcript ≡ []
  outside_none s none =
      none_of_none (questions s world.front.transcript) (length (answers s world.front.transcript)) (no_questions s none world.front.transcript)

  none_left : (s : ℕ) → pending s world.front.transcript ≡ []
  none_left s = by_first (cases_lt s 1) (cases_lt SESSIONS_MAX s)
    where
      by_first : (s < 1) ⊎ (1 ≤ s) → (SESSIONS_MAX < s) ⊎ (s ≤ SESSIONS_MAX) → pending s world.front.transcript ≡ []
      by_first (inl below) other = outside_none s (λ between. absurd (omega (arith, below, between.0)))
      by_first (inr from) (inl past) = outside_none s (λ between. absurd (omega (arith, past, between.1)))
      by_first (inr from) (inr to) = none_pending s from to

  pub rest_answers : IsWell world.front.transcript → EveryLineAnswered world.front.transcript
  rest_answers well = record {
    answered = λ s k exchange at. each_answered (questions s world.front.transcript) (answers s world.front.transcript) (none_left s) k exchange at;
    refused = well.refused_after;
  }
