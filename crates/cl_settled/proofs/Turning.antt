-- The steps that each event is: what they break they end, whom they abort was aborted for good, and who joins has not ended anywhere.
use Rattle.std.proofs.Common.{◌≡◌, ℕ, ◌<◌, nat_eq, eqb, Bool, true, false, cond, ◌&&◌, ◌⊎◌, inl, inr, List, [], ◌∷◌, ◌++◌, Option, Some, None, filter, refl, sym, ◌∙◌, ap, subst}
use Rattle.std.proofs.lemmas.Bool.{cond_both, eq-eqb, eqb-false, and_parts, and_from, both_ways, true≢false}
use Rattle.cl_types.specs.declared.operations.Op.{Op}
use Rattle.cl_types.specs.declared.operations.TxnId.{TxnId}
use Rattle.cl_types.specs.Places.{Place}
use Rattle.cl_types.specs.Transactions.{same_txn}
use Rattle.cl_types.proofs.Transactions.{same_txn-true, same_txn-itself}
use Rattle.cl_control.specs.Calls.{command_acts, counts_vote, is_last_vote}
use Rattle.cl_control.specs.State.{Entry}
use Rattle.cl_log.specs.Kind.{txn_of}
use Rattle.cl_log.specs.LogEntry.{LogEntry}
use Rattle.cl_log.specs.Open.{has_ended, is_open, is_among}
use Rattle.cl_log.specs.Rest.{rest_to_undo}
use Rattle.cl_log.proofs.KindFacts.{txn_of-undo_of}
use Rattle.cl_log.proofs.Rest.{first_of_rest_is}
use Rattle.cl_node.specs.Addressing.{home_in}
use Rattle.cl_order.specs.Ledger.{Ledger}
use Rattle.cl_order.specs.Steps.{Step, carry_out, prepare, decide, join, undo, finish, cut}
use Rattle.cl_part.specs.Calls.{refusing, after_undo}
use Rattle.cl_part.specs.Laws.{step_asked, step_undoing}
use Rattle.cl_part.specs.State.{State}
use Rattle.cl_roster.specs.Roster.{IsClusterSize}
use Rattle.cl_runs.specs.Queues.{QueueEvent, deliver, take_line}
use Rattle.cl_runs.specs.World.{Shape}
use Rattle.cl_steps.specs.declared.actors.TheConstants.{FRONT}
use Rattle.cl_vnode.specs.Inputs.{has_decide}
use Rattle.cl_wire.specs.Message.{Content, Bare, Command, Outcome, Ask, Answer, Prepare, Vote, Finish, Inquire, Decision, Log, LogAck, Repair, Records, Names, CopyAck}
use Rattle.cl_system.specs.Firm.{FirmWorld, FirmEvent, happens, reorder, join as firmly, MayFirm}
use Rattle.cl_system.specs.Replicas.{ReplicaWorld, MayReplicas}
use Rattle.cl_system.specs.Roles.{IsAddressed}
use Rattle.cl_system.proofs.Places.{receiver_below}
use Rattle.cl_exchange.specs.Laws.{IsSoundWorld}
use Rattle.cl_exchange.proofs.Runs.{first_addressed}
use Rattle.cl_commit.specs.Life.{Life, to_come, open_as, committed, aborted, entry_in, IsSoFar, MayStand, Lives, CommitsWhole}
use Rattle.cl_commit.specs.Standing.{Standing, part_view, is_order, StandsSo}
use Rattle.cl_ledger.specs.Ledgers.{IsLedgerOf, undo_steps, finish_steps, decision_steps, message_steps, first_steps, event_steps, firm_steps}
use Rattle.cl_ledger.proofs.Standings.{finish_stands}
use Rattle.cl_settled.proofs.Growing.{IsNoCut, Breaks, Aborts, Ends, Joins, EachStep, SomeStep}
use Rattle.cl_settled.proofs.Going.{IsTurn, IsSettling, outside_unended}

-- ---- who is lost

-- the transaction was aborted, and never becomes a member
abbrev pub IsLost : ℕ → ReplicaWorld → TxnId → Type 0
IsLost nodes world txn = IsSoFar nodes world txn aborted

-- an end without commit is on its way to a virtual node
module _ (shape : Shape) (world : ReplicaWorld) (txn : TxnId) (v : ℕ) (below : v < shape.nodes) (lives : Lives shape world txn) (rest : List Content)
    (here : world.mail (home_in shape.nodes txn) v ≡ Finish v txn false ∷ rest) where
  -- it is of the transaction
  own_end : (nat_eq v v && same_txn txn txn) ≡ true
  own_end = and_from _ _ (eq-eqb v v refl) (same_txn-itself txn)

  -- so an order is on its way
  order_waits : (part_view shape.nodes world txn v).orders ≡ [] → ⊥
  order_waits none =
      let more : List Content = filter (is_order v txn) rest in
      let e : ◌≡◌ {A = List Content} [] (Finish v txn false ∷ more)
      = sym none ∙ ap (filter (is_order v txn)) here ∙ ap (λ b. cond b (Finish v txn false ∷ more) more) own_end in cc

  -- its transaction is no member, and no controller has it open
  closed_outside : (entry_in shape.nodes world txn ≡ None) × (is_among txn world.history ≡ false)
  closed_outside = finish_stands shape world txn v below lives false rest here own_end

  -- of all lives it has the one of an aborted transaction
  lost_so_far : (life : Life) (standing : Standing) → IsSoFar shape.nodes world txn life → MayStand life v standing →
      StandsSo v txn (part_view shape.nodes world txn v) standing → IsLost shape.nodes world txn
  lost_so_far to_come standing so_far may stands = absurd (order_waits (subst (StandsSo v txn (part_view shape.nodes world txn v)) may stands).orders)
  lost_so_far (open_as entry) standing so_far may stands = absurd (let e : ◌≡◌ {A = Option Entry} None (Some entry) = sym closed_outside.0 ∙ so_far.1 in cc)
  lost_so_far committed standing so_far may stands = absurd (both_ways _ closed_outside.1 so_far.2)
  lost_so_far aborted standing so_far may stands = so_far

  -- so it is lost
  ending_lost : IsLost shape.nodes world txn
  ending_lost = let stands = lives.stands v below in lost_so_far lives.life stands.0 lives.so_far stands.2 stands.1

-- ---- lists of steps

-- what follows from a fact of each step holds of each
each_weaker : (P Q : Step → Type 0) → ((step : Step) → P step → Q step) → (steps : List Step) → EachStep P steps → EachStep Q steps
each_weaker P Q weaker [] each = tt
each_weaker P Q weaker (step ∷ steps) each = (weaker step each.0, each_weaker P Q weaker steps each.1)

-- a fact of each step of two lists is one of both together
each_both : (P : Step → Type 0) (xs ys : List Step) → EachStep P xs → EachStep P ys → EachStep P (xs ++ ys)
each_both P [] ys front back = back
each_both P (step ∷ xs) ys front back = (front.0, each_both P xs ys front.1 back)

-- what follows from a fact of each step and one of some
some_each : (P Q : Step → Type 0) (R : Type 0) → ((step : Step) → P step → Q step → R) → (steps : List Step) → EachStep P steps → SomeStep Q steps → R
some_each P Q R both [] each none = absurd none
some_each P Q R both (step ∷ steps) each (inl here) = both step each.0 here
some_each P Q R both (step ∷ steps) each (inr later) = some_each P Q R both steps each.1 later

-- some step of two lists together is one of either
some_either : (Q : Step → Type 0) (xs ys : List Step) → SomeStep Q (xs ++ ys) → SomeStep Q xs ⊎ SomeStep Q ys
some_either Q [] ys some = inr some
some_either Q (step ∷ xs) ys (inl here) = inl (inl here)
some_either Q (step ∷ xs) ys (inr later) = elim (some_either Q xs ys later) [ inl front ↦ inl (inr front) | inr back ↦ inr back ]

-- some step of the second list is one of both together
some_back : (Q : Step → Type 0) (xs ys : List Step) → SomeStep Q ys → SomeStep Q (xs ++ ys)
some_back Q [] ys some = some
some_back Q (step ∷ xs) ys some = inr (some_back Q xs ys some)

-- ---- a rollback

-- the step undoes a write of the transaction at the virtual node
abbrev IsUndoOf : ℕ → TxnId → Step → Type 0
IsUndoOf v txn (carry_out actor place op) = ⊥
IsUndoOf v txn (prepare w actor) = ⊥
IsUndoOf v txn (decide w actor) = ⊥
IsUndoOf v txn (join actor) = ⊥
IsUndoOf v txn (undo w content) = (w ≡ v) × (txn_of content ≡ txn)
IsUndoOf v txn (finish w actor commit) = ⊥
IsUndoOf v txn (cut w front) = ⊥

-- the step that undoes the first of the rest
first_undo : (v : ℕ) (state : State) (txn : TxnId) (rest : List LogEntry) → rest_to_undo state.log txn ≡ rest → EachStep (IsUndoOf v txn) (step_undoing v state rest)
first_undo v state txn [] is = tt
first_undo v state txn (first ∷ others) is =
    let heads = first_of_rest_is state.log txn first others is in
    ((refl, txn_of-undo_of first.content first.number _ ∙ same_txn-true _ _ (and_parts _ _ heads.left).0), tt)

-- each step of a rollback undoes a write of its transaction
undos_are : (v : ℕ) (rest : List LogEntry) (state : State) (txn : TxnId) → EachStep (IsUndoOf v txn) (undo_steps v state txn rest)
undos_are v [] state txn = tt
undos_are v (entry ∷ rest) state txn =
    each_both (IsUndoOf v txn) (step_undoing v state (rest_to_undo state.log txn)) (undo_steps v (after_undo state txn) txn rest)
    (first_undo v state txn (rest_to_undo state.log txn) refl) (undos_are v rest (after_undo state txn) txn)

-- to undo is no cut
undo_no_cut : (v : ℕ) (txn : TxnId) (step : Step) → IsUndoOf v txn step → IsNoCut step
undo_no_cut v txn (undo w content) is = tt
undo_no_cut v txn (carry_out actor place op) is = absurd is
undo_no_cut v txn (prepare w actor) is = absurd is
undo_no_cut v txn (decide w actor) is = absurd is
undo_no_cut v txn (join actor) is = absurd is
undo_no_cut v txn (finish w actor commit) is = absurd is
undo_no_cut v txn (cut w front) is = absurd is

-- it breaks that transaction alone
undo_breaks : (v : ℕ) (txn : TxnId) (u : ℕ) (other : TxnId) (step : Step) → IsUndoOf v txn step → Breaks u other step → (u ≡ v) × (other ≡ txn)
undo_breaks v txn u other (undo w content) is breaks = (breaks.0 ∙ is.0, breaks.1 ∙ is.1)
undo_breaks v txn u other (carry_out actor place op) is breaks = absurd is
undo_breaks v txn u other (prepare w actor) is breaks = absurd is
undo_breaks v txn u other (decide w actor) is breaks = absurd is
undo_breaks v txn u other (join actor) is breaks = absurd is
undo_breaks v txn u other (finish w actor commit) is breaks = absurd is
undo_breaks v txn u other (cut w front) is breaks = absurd is

-- it aborts that transaction alone
undo_aborts : (v : ℕ) (txn : TxnId) (u : ℕ) (other : TxnId) (step : Step) → IsUndoOf v txn step → Aborts u other step → other ≡ txn
undo_aborts v txn u other (undo w content) is aborts = aborts.1 ∙ is.1
undo_aborts v txn u other (carry_out actor place op) is aborts = absurd is
undo_aborts v txn u other (prepare w actor) is aborts = absurd is
undo_aborts v txn u other (decide w actor) is aborts = absurd is
undo_aborts v txn u other (join actor) is aborts = absurd is
undo_aborts v txn u other (finish w actor commit) is aborts = absurd is
undo_aborts v txn u other (cut w front) is aborts = absurd is

-- and nobody joins by it
undo_joins : (v : ℕ) (txn other : TxnId) (step : Step) → IsUndoOf v txn step → Joins other step → ⊥
undo_joins v txn other (undo w content) is joins = joins
undo_joins v txn other (carry_out actor place op) is joins = is
undo_joins v txn other (prepare w actor) is joins = is
undo_joins v txn other (decide w actor) is joins = is
undo_joins v txn other (join actor) is joins = is
undo_joins v txn other (finish w actor commit) is joins = is
undo_joins v txn other (cut w front) is joins = is

-- ---- the steps of each kind of event

module _ (nodes : ℕ) (Lost : TxnId → Type 0) (ledger : Ledger) where
  -- no step
  idle_turn : IsTurn nodes Lost ledger []
  idle_turn = record { no_cut = tt; ends = λ u txn none. absurd none; lost = λ u txn none. absurd none; unended = λ txn none. absurd none }

  -- an operation, or none
  asked_turn : (refused : Option TxnId) (txn : TxnId) (place : Place) (op : Op) → IsTurn nodes Lost ledger (step_asked refused (carry_out txn place op))
  asked_turn (Some holder) txn place op = idle_turn
  asked_turn None txn place op = record {
    no_cut = (tt, tt);
    ends = λ u other some. elim some [ inl none ↦ absurd none | inr none ↦ absurd none ];
    lost = λ u other some. elim some [ inl none ↦ absurd none | inr none ↦ absurd none ];
    unended = λ other some. elim some [ inl none ↦ absurd none | inr none ↦ absurd none ];
  }

  -- a Prepared
  prepared_turn : (v : ℕ) (txn : TxnId) → IsTurn nodes Lost ledger (prepare v txn ∷ [])
  prepared_turn v txn = record {
    no_cut = (tt, tt);
    ends = λ u other some. elim some [ inl none ↦ absurd none | inr none ↦ absurd none ];
    lost = λ u other some. elim some [ inl none ↦ absurd none | inr none ↦ absurd none ];
    unended = λ other some. elim some [ inl none ↦ absurd none | inr none ↦ absurd none ];
  }

  -- a Decide
  decided_turn : (v : ℕ) (txn : TxnId) → IsTurn nodes Lost ledger (decision_steps v txn)
  decided_turn v txn = record {
    no_cut = (tt, tt);
    ends = λ u other some. elim some [ inl none ↦ absurd none | inr none ↦ absurd none ];
    lost = λ u other some. elim some [ inl none ↦ absurd none | inr none ↦ absurd none ];
    unended = λ other some. elim some [ inl none ↦ absurd none | inr none ↦ absurd none ];
  }

  -- a transaction that has not ended becomes a member
  joined_turn : (txn : TxnId) → ((u : ℕ) → u < nodes → has_ended (ledger.logs u) txn ≡ false) → IsTurn nodes Lost ledger (join txn ∷ [])
  joined_turn txn unended = record {
    no_cut = (tt, tt);
    ends = λ u other some. elim some [ inl none ↦ absurd none | inr none ↦ absurd none ];
    lost = λ u other some. elim some [ inl none ↦ absurd none | inr none ↦ absurd none ];
    unended = λ other some. elim some [ inl same ↦ λ u below. ap (has_ended (ledger.logs u)) same ∙ unended u below | inr none ↦ absurd none ];
  }

  -- an End with commit
  finished_turn : (v : ℕ) (txn : TxnId) → IsTurn nodes Lost ledger (finish v txn true ∷ [])
  finished_turn v txn = record {
    no_cut = (tt, tt);
    ends = λ u other some. some;
    lost = λ u other some. elim some [ inl is ↦ absurd (true≢false is.1.1) | inr none ↦ absurd none ];
    unended = λ other some. elim some [ inl none ↦ absurd none | inr none ↦ absurd none ];
  }

  -- a rollback, and an End without commit
  aborted_turn : (v : ℕ) (txn : TxnId) (undos : List Step) → EachStep (IsUndoOf v txn) undos → Lost txn →
      IsTurn nodes Lost ledger (undos ++ finish v txn false ∷ [])
  aborted_turn v txn undos each lost = record {
    no_cut = each_both IsNoCut undos (finish v txn false ∷ []) (each_weaker (IsUndoOf v txn) IsNoCut (undo_no_cut v txn) undos each) (tt, tt);
    ends = λ u other some. some_back (Ends u other) undos (finish v txn false ∷ []) (elim (some_either (Breaks u other) undos (finish v txn false ∷ []) some) [
      | inl front ↦ inl (some_each (IsUndoOf v txn) (Breaks u other) ((u ≡ v) × (other ≡ txn)) (undo_breaks v txn u other) undos each front)
      | inr back ↦ back
    ]);
    lost = λ u other some. subst Lost (sym (elim (some_either (Aborts u other) undos (finish v txn false ∷ []) some) [
      | inl front ↦ some_each (IsUndoOf v txn) (Aborts u other) (other ≡ txn) (undo_aborts v txn u other) undos each front
      | inr back ↦ elim back [ inl is ↦ is.1.0 | inr none ↦ absurd none ]
    ])) lost;
    unended = λ other some. absurd (nobody other some);
  }
    where
      nobody : (other : TxnId) → SomeStep (Joins other) (undos ++ finish v txn false ∷ []) → ⊥
      nobody other some = elim (some_either (Joins other) undos (finish v txn false ∷ []) some) [
        | inl front ↦ some_each (IsUndoOf v txn) (Joins other) ⊥ (undo_joins v txn other) undos each front
        | inr back ↦ elim back [ inl none ↦ none | inr none ↦ none ]
      ]

-- ---- an event of the system

module _ (shape : Shape) (size : IsClusterSize shape.nodes shape.spares) (world : ReplicaWorld) (ledger : Ledger) (commits : CommitsWhole shape world) where
  -- the steps are a turn of the ledger
  abbrev IsTurnHere : List Step → Type 0
  IsTurnHere = IsTurn shape.nodes (IsLost shape.nodes world) ledger

  idle : IsTurnHere []
  idle = idle_turn shape.nodes (IsLost shape.nodes world) ledger

  -- an end comes
  end_turn : (v : ℕ) (txn : TxnId) (commit : Bool) (rest : List Content) → v < shape.nodes → Lives shape world txn →
      world.mail (home_in shape.nodes txn) v ≡ Finish v txn commit ∷ rest → IsTurnHere (finish_steps v (world.replicas v).part txn commit)
  end_turn v txn true rest below lives here = finished_turn shape.nodes (IsLost shape.nodes world) ledger v txn
  end_turn v txn false rest below lives here =
      aborted_turn shape.nodes (IsLost shape.nodes world) ledger v txn (undo_steps v (world.replicas v).part txn (rest_to_undo (world.replicas v).part.log txn))
      (undos_are v (rest_to_undo (world.replicas v).part.log txn) (world.replicas v).part txn) (ending_lost shape world txn v below lives rest here)

  -- any message to a replica
  message_turn : (from to : ℕ) (content : Content) (rest : List Content) (mark : Bool) → world.mail from to ≡ content ∷ rest → to < shape.nodes →
      IsAddressed shape.nodes from to content → IsTurnHere (message_steps to (world.replicas to) content mark)
  message_turn from to (Command w txn number what) rest mark here below addressed =
      cond_both (has_decide (command_acts (world.replicas to).control txn number what)) (decision_steps to txn) [] IsTurnHere
      (λ decides. decided_turn shape.nodes (IsLost shape.nodes world) ledger to txn) (λ none. idle)
  message_turn from to (Vote w txn) rest mark here below addressed =
      cond_both (counts_vote (world.replicas to).control w txn && is_last_vote (world.replicas to).control w txn) (decision_steps to txn) [] IsTurnHere
      (λ last. decided_turn shape.nodes (IsLost shape.nodes world) ledger to txn) (λ more. idle)
  message_turn from to (Ask w txn number table key op) rest true here below addressed = idle
  message_turn from to (Ask w txn number table key op) rest false here below addressed =
      asked_turn shape.nodes (IsLost shape.nodes world) ledger (refusing (world.replicas to).part txn (table, key) op) txn (table, key) op
  message_turn from to (Prepare w txn) rest mark here below addressed = prepared_turn shape.nodes (IsLost shape.nodes world) ledger to txn
  message_turn from to (Finish w txn commit) rest mark here below addressed =
      cond_both (is_open (world.replicas to).part.log txn) (finish_steps to (world.replicas to).part txn commit) [] IsTurnHere
      (λ opened. end_turn to txn commit rest below (commits.lives txn addressed.session)
      (ap (λ g. world.mail g to) (sym addressed.giver) ∙ here ∙ ap (λ u. Finish u txn commit ∷ rest) (sym addressed.receiver)))
      (λ none. idle)
  message_turn from to (Decision w txn commit) rest mark here below addressed = absurd addressed
  message_turn from to (Outcome txn number outcome) rest mark here below addressed = idle
  message_turn from to (Answer w txn number reply) rest mark here below addressed = idle
  message_turn from to Bare rest mark here below addressed = idle
  message_turn from to (Inquire w txn) rest mark here below addressed = idle
  message_turn from to (Log w number entry) rest mark here below addressed = idle
  message_turn from to (LogAck w number) rest mark here below addressed = idle
  message_turn from to (Repair w other) rest mark here below addressed = idle
  message_turn from to (Records w index records) rest mark here below addressed = idle
  message_turn from to (Names w index last low txns) rest mark here below addressed = idle
  message_turn from to (CopyAck w index) rest mark here below addressed = idle

  -- each event that may happen
  system_turn : (event : QueueEvent) → IsSoundWorld shape world → MayReplicas world event → IsTurnHere (event_steps world event)
  unfolding event_steps
  system_turn (deliver from to mark) sound (content, rest, here) =
      let addressed : IsAddressed shape.nodes from to content = first_addressed shape world from to content rest sound here in
      subst (λ contents. IsTurnHere (first_steps world to mark contents)) (sym here)
      (cond_both (eqb to FRONT) [] (message_steps to (world.replicas to) content mark) IsTurnHere
      (λ at_front. idle)
      (λ elsewhere. message_turn from to content rest mark here
      (receiver_below shape.nodes from to content size.counted (eqb-false to FRONT elsewhere) addressed) addressed))
  system_turn (take_line number text said) sound may = idle
  system_turn other sound may = idle

-- ---- an event of the firm system

-- each event that may happen is a turn
pub event_turn : (shape : Shape) (state : FirmWorld) (ledger : Ledger) (event : FirmEvent) → IsClusterSize shape.nodes shape.spares →
    IsSoundWorld shape state.world → CommitsWhole shape state.world → IsLedgerOf shape state ledger →
    IsSettling shape.nodes (IsLost shape.nodes state.world) ledger → MayFirm state event →
    IsTurn shape.nodes (IsLost shape.nodes state.world) ledger (firm_steps state event)
unfolding firm_steps
event_turn shape state ledger (happens event) size sound commits is settling may = system_turn shape size state.world ledger commits event sound may.0
event_turn shape state ledger (reorder mail) size sound commits is settling may = idle_turn shape.nodes (IsLost shape.nodes state.world) ledger
event_turn shape state ledger (firmly txn) size sound commits is settling may =
    joined_turn shape.nodes (IsLost shape.nodes state.world) ledger txn
    (outside_unended shape.nodes (IsLost shape.nodes state.world) ledger settling txn (ap (is_among txn) is.history ∙ may.1)
    (λ lost. both_ways _ lost.2 may.0))
