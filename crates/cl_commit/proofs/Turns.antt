-- What the turns of a session send: each BEGIN is of the next transaction, and nothing else begins one.
use Rattle.std.proofs.Common.{◌≡◌, ℕ, ◌+◌, ◌%◌, ◌<◌, ◌≤◌, Bool, true, false, ◌||◌, ◌⊎◌, inl, inr, List, [], ◌∷◌, ◌++◌, All, fold, Result, Ok, Err, refl, sym, ap, ◌∙◌, arith}
use Rattle.std.specs.List.{list_any}
use Rattle.std.proofs.lemmas.Bool.{cases_lt, or_cases, or_left, or_right, and_parts, and_from, eqb-true, eq-eqb, cond_both, false≢true}
use Rattle.std.proofs.lemmas.List.Elements.{All-nil, All-cons, All-append}
use Rattle.std.proofs.lemmas.List.Folds.{list_any-append}
use Rattle.cl_actor.specs.Core.{Noted}
use Rattle.cl_front.specs.declared.current.Current.{Current}
use Rattle.cl_front.specs.Session.{SessionState, is_outstanding, with_waiting, Turned, unturned, joined, turned, turned_by, next_current, offered, taken, heard, session_after}
use Rattle.cl_runs.specs.World.{Shape}
use Rattle.cl_steps.specs.declared.steps.Outgoing.{Outgoing}
use Rattle.cl_system.specs.Replicas.{nothing_noted}
use Rattle.cl_types.specs.declared.answers.Outcome.{Outcome}
use Rattle.cl_types.specs.declared.operations.Command.{Command}
use Rattle.cl_types.specs.declared.operations.Command.TheVariants.{Begin, Work, Commit, Abort}
use Rattle.cl_types.specs.declared.operations.TxnId.{TxnId}
use Rattle.cl_types.specs.Transactions.{same_txn}
use Rattle.cl_commit.specs.Life.{is_begin_of}

-- one of the messages is the BEGIN of the transaction
abbrev pub begins : TxnId → List Outgoing → Bool
begins txn sends = list_any (λ send. is_begin_of txn send.payload) sends

-- a session has begun so many before and after, and sends a BEGIN of each between
pub record IsTurned (nodes s before after : ℕ) (sends : List Outgoing) : Type 0 where
  pub grows : before ≤ after
  pub says : (txn : TxnId) → begins txn sends ≡ true → (txn.session ≡ s) × (before < txn.number)
  pub tells : (txn : TxnId) → txn.session ≡ s → before < txn.number → txn.number ≤ after → begins txn sends ≡ true
  pub goes : All (λ send. send.to ≡ s % nodes) sends

none-turned : (nodes s begun : ℕ) → IsTurned nodes s begun begun []
none-turned nodes s begun = record { grows = omega arith; says = λ txn h. absurd (false≢true h); tells = λ txn own above below. absurd (omega arith); goes = All-nil (λ (send : Outgoing). send.to ≡ s % nodes) }

-- a command that is not BEGIN
other-turned : (nodes s begun : ℕ) (send : Outgoing) → send.to ≡ s % nodes → ((txn : TxnId) → is_begin_of txn send.payload ≡ false) → IsTurned nodes s begun begun (send ∷ [])
other-turned nodes s begun send goes none = record {
  grows = omega arith;
  says = λ txn h. absurd (false≢true (sym (ap (λ b. b || false) (none txn)) ∙ h));
  tells = λ txn own above below. absurd (omega arith);
  goes = All-cons (λ (send : Outgoing). send.to ≡ s % nodes) send [] goes (All-nil (λ (send : Outgoing). send.to ≡ s % nodes));
}

-- turns after others
joined-turned : (nodes s a b c : ℕ) (first next : List Outgoing) → IsTurned nodes s a b first → IsTurned nodes s b c next → IsTurned nodes s a c (first ++ next)
joined-turned nodes s a b c first next one other = record {
  grows = (let m = one.grows in let n = other.grows in omega (arith, m, n));
  says = λ txn h. elim (or_cases (begins txn first) (begins txn next) (sym (list_any-append (λ (send : Outgoing). is_begin_of txn send.payload) first next) ∙ h)) [
    | inl here ↦ one.says txn here
    | inr there ↦ (let said = other.says txn there in let m = one.grows in let n = said.1 in (said.0, omega (arith, m, n)))
  ];
  tells = λ txn own above below. list_any-append (λ (send : Outgoing). is_begin_of txn send.payload) first next ∙ (elim (cases_lt b txn.number) [
    | inl later ↦ or_right _ _ (other.tells txn own later below)
    | inr within ↦ or_left _ _ (one.tells txn own above within)
  ]);
  goes = All-append (λ (send : Outgoing). send.to ≡ s % nodes) first next one.goes other.goes;
}

module _ (shape : Shape) (s : ℕ) where
  abbrev noted : Noted
  noted = nothing_noted shape

  forwarded-turned : (session : SessionState) (current : Current) (command : Command) →
      IsTurned shape.nodes s session.begun (turned_by noted s session command (Ok current)).session.begun (turned_by noted s session command (Ok current)).sends
  forwarded-turned session current Begin = record {
    grows = omega arith;
    says = λ txn h. by txn (or_cases _ _ h);
    tells = λ txn own above below. or_left _ _ (and_from _ _ (eq-eqb txn.session s own) (eq-eqb txn.number (session.begun + 1) (omega arith)));
    goes = All-cons (λ (send : Outgoing). send.to ≡ s % shape.nodes) _ [] refl (All-nil (λ (send : Outgoing). send.to ≡ s % shape.nodes));
  }
    where
      by : (txn : TxnId) → (same_txn txn (record { session = s; number = session.begun + 1 }) ≡ true) ⊎ (false ≡ true) → (txn.session ≡ s) × (session.begun < txn.number)
      by txn (inl same) =
          let parts = and_parts _ _ same in
          let e : txn.number ≡ session.begun + 1 = eqb-true txn.number (session.begun + 1) parts.1 in
          (eqb-true txn.session s parts.0, omega (arith, e))
      by txn (inr clash) = absurd (false≢true clash)
  forwarded-turned session current (Work table key op) = other-turned shape.nodes s session.begun _ refl (λ txn. refl)
  forwarded-turned session current Commit = other-turned shape.nodes s session.begun _ refl (λ txn. refl)
  forwarded-turned session current Abort = other-turned shape.nodes s session.begun _ refl (λ txn. refl)

  turned_by-turned : (session : SessionState) (command : Command) (next : Result Current Outcome) →
      IsTurned shape.nodes s session.begun (turned_by noted s session command next).session.begun (turned_by noted s session command next).sends
  turned_by-turned session command (Ok current) = forwarded-turned session current command
  turned_by-turned session command (Err outcome) = none-turned shape.nodes s session.begun

  offered-turned : (begun : ℕ) (so_far : Turned) (command : Command) → IsTurned shape.nodes s begun so_far.session.begun so_far.sends →
      IsTurned shape.nodes s begun (offered noted s so_far command).session.begun (offered noted s so_far command).sends
  offered-turned begun so_far command h =
      cond_both (is_outstanding so_far.session) (record so_far { session = with_waiting so_far.session command }) (joined so_far (turned noted s so_far.session command))
      (λ (t : Turned). IsTurned shape.nodes s begun t.session.begun t.sends)
      (λ busy. h)
      (λ free. joined-turned shape.nodes s begun so_far.session.begun _ so_far.sends _ h (turned_by-turned so_far.session command (next_current so_far.session.current command)))

  fold-turned : (begun : ℕ) (commands : List Command) (so_far : Turned) → IsTurned shape.nodes s begun so_far.session.begun so_far.sends →
      IsTurned shape.nodes s begun (fold (offered noted s) so_far commands).session.begun (fold (offered noted s) so_far commands).sends
  fold-turned begun [] so_far h = h
  fold-turned begun (command ∷ rest) so_far h = fold-turned begun rest (offered noted s so_far command) (offered-turned begun so_far command h)

  pub taken-turned : (session : SessionState) → IsTurned shape.nodes s session.begun (taken noted s session).session.begun (taken noted s session).sends
  unfolding taken
  taken-turned session = fold-turned session.begun session.waiting (unturned (record session { waiting = [] })) (none-turned shape.nodes s session.begun)

  pub heard-turned : (session : SessionState) (outcome : Outcome) → IsTurned shape.nodes s session.begun (heard noted s session outcome).session.begun (heard noted s session outcome).sends
  heard-turned session outcome = taken-turned (session_after outcome session)
