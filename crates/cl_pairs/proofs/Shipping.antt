-- A step of a primary: what it appends, it ships first, and nothing else that it sends is between primary and standby.
use Rattle.std.proofs.Common.{◌≡◌, ℕ, ◌+◌, ◌≤◌, nat_le, Bool, true, false, List, [], ◌∷◌, ◌++◌, map, fold, length, All, refl, ◌∙◌, ap, subst, arith}
use Rattle.std.proofs.lemmas.Bool.{cond-true, cond_both, le-leb}
use Rattle.std.proofs.lemmas.List.Elements.{All-nil, All-push, filter-append}
use Rattle.cl_control.specs.declared.acts.Act.{Act}
use Rattle.cl_control.specs.declared.acts.Act.TheVariants as acts
use Rattle.cl_control.specs.Calls.{command_acts, after_command, answer_acts, after_answer, vote_acts, after_vote, safe_acts, after_safe}
use Rattle.cl_control.specs.State.{ControlState}
use Rattle.cl_log.proofs.Entries.{IsNumberedFrom-append}
use Rattle.cl_log.specs.declared.records.LogRec.{LogRec}
use Rattle.cl_log.specs.declared.records.LogRec.TheVariants as records
use Rattle.cl_log.specs.LogEntry.{LogEntry, IsNumberedFrom}
use Rattle.cl_log.specs.Open.{is_open}
use Rattle.cl_part.specs.Calls.{after_decide}
use Rattle.cl_part.specs.State.{State}
use Rattle.cl_repair.specs.declared.mode.Mode.{Mode}
use Rattle.cl_repair.specs.declared.mode.Mode.TheVariants.{Pair}
use Rattle.cl_repair.specs.Modes.{ModesState, after_acked}
use Rattle.cl_steps.specs.declared.actors.TheConstants.{FRONT}
use Rattle.cl_steps.specs.declared.steps.Outgoing.{Outgoing}
use Rattle.cl_steps.specs.Steps.{sent}
use Rattle.cl_types.specs.declared.operations.Op.{Op}
use Rattle.cl_types.specs.declared.operations.TxnId.{TxnId}
use Rattle.cl_types.specs.Places.{Place}
use Rattle.cl_vnode.proofs.Telling.{none_from}
use Rattle.cl_vnode.specs.Replica.{ReplicaState, safe_number}
use Rattle.cl_vnode.specs.Step.{Stepped, started, with_message, with_part, with_control, decided, performed, all_performed, commanded, answered, voted, asked, prepared, after_finish, finished, taken, told, entry_told, entries_between, all_told, log_message, log_messages, entries_from, stepped}
use Rattle.cl_wire.specs.Message.{Content, Command, Outcome, Ask, Answer, Prepare, Vote, Finish, Decision, Log, LogAck}
use Rattle.cl_pairs.proofs.Logs.{IsSaid, counted-said, HasGrown, grown-none, grown-record, grown-op, grown-finish, grown-prepare}

-- the message is not between a primary and its standby
abbrev pub IsOutward : Content → Type 0
IsOutward (Log v number entry) = ⊥
IsOutward (LogAck v number) = ⊥
IsOutward content = Unit {0}

-- so is each of these
abbrev pub AreOutward : List Outgoing → Type 0
AreOutward sends = All (λ send. IsOutward send.payload) sends

-- what was acknowledged, once a message came
abbrev pub modes_with : ModesState → Content → ModesState
modes_with modes (LogAck v number) = after_acked modes number
modes_with modes content = modes

-- a part of a step of this replica, with these modes since
record HasGone (before : ReplicaState) (modes : ModesState) (done : Stepped) : Type 0 where
  grown : HasGrown before.part done.state.part done.state.decisions
  own : done.state.v ≡ before.v
  kept : done.state.modes ≡ modes
  sends : AreOutward done.step.sends

module _ (before : ReplicaState) (modes : ModesState) where
  -- one message more
  gone-message : (done : Stepped) (to : ℕ) (content : Content) → IsOutward content → HasGone before modes done →
      HasGone before modes (with_message done to content)
  gone-message done to content outward gone = record {
    grown = gone.grown;
    own = gone.own;
    kept = gone.kept;
    sends = All-push (λ (send : Outgoing). IsOutward send.payload) done.step.sends (sent to content) gone.sends outward;
  }

  -- the controller has changed
  gone-control : (done : Stepped) (control : ControlState) → HasGone before modes done → HasGone before modes (with_control done control)
  gone-control done control gone = record { grown = gone.grown; own = gone.own; kept = gone.kept; sends = gone.sends }

  -- so has the participant
  gone-part : (done : Stepped) (part : State) → HasGrown before.part part done.state.decisions → HasGone before modes done →
      HasGone before modes (with_part done part)
  gone-part done part grown gone = record { grown = grown; own = gone.own; kept = gone.kept; sends = gone.sends }

  -- a Decide is appended
  gone-decided : (done : Stepped) (txn : TxnId) → HasGone before modes done → HasGone before modes (decided done txn)
  unfolding decided after_decide
  gone-decided done txn gone =
      record {
        grown = grown-record before.part done.state.part done.state.decisions (records.Decide txn) gone.grown;
        own = gone.own;
        kept = gone.kept;
        sends = gone.sends;
      }

  -- an act is performed
  gone-performed : (primary : ℕ → ℕ) (done : Stepped) (act : Act) → HasGone before modes done → HasGone before modes (performed primary done act)
  unfolding performed
  gone-performed primary done (acts.Ask v txn number table key op) gone = gone-message done (primary v) (Ask v txn number table key op) tt gone
  gone-performed primary done (acts.Prepare v txn) gone = gone-message done (primary v) (Prepare v txn) tt gone
  gone-performed primary done (acts.Finish v txn commit) gone = gone-message done (primary v) (Finish v txn commit) tt gone
  gone-performed primary done (acts.Decide txn) gone = gone-decided done txn gone
  gone-performed primary done (acts.Say txn number outcome) gone = gone-message done FRONT (Outcome txn number outcome) tt gone

  -- acts are
  gone-all : (primary : ℕ → ℕ) (done : Stepped) (list : List Act) → HasGone before modes done → HasGone before modes (all_performed primary done list)
  gone-all primary done [] gone = gone
  gone-all primary done (act ∷ list) gone = gone-all primary (performed primary done act) list (gone-performed primary done act gone)

  -- acts are, once the controller has changed
  gone-controlled : (primary : ℕ → ℕ) (done : Stepped) (control : ControlState) (list : List Act) → HasGone before modes done →
      HasGone before modes (all_performed primary (with_control done control) list)
  gone-controlled primary done control list gone = gone-all primary (with_control done control) list (gone-control done control gone)

  -- an operation
  gone-asked : (done : Stepped) (from v : ℕ) (txn : TxnId) (number : ℕ) (place : Place) (op : Op) (short : Bool) → HasGone before modes done →
      HasGone before modes (asked done from v txn number place op short)
  unfolding asked
  gone-asked done from v txn number place op true gone = record {
    grown = gone.grown;
    own = gone.own;
    kept = gone.kept;
    sends = All-push (λ (send : Outgoing). IsOutward send.payload) done.step.sends _ gone.sends tt;
  }
  gone-asked done from v txn number place op false gone = record {
    grown = grown-op before.part done.state.part done.state.decisions txn place op gone.grown;
    own = gone.own;
    kept = gone.kept;
    sends = All-push (λ (send : Outgoing). IsOutward send.payload) done.step.sends _ gone.sends tt;
  }

  -- a vote is made ready
  gone-prepared : (done : Stepped) (txn : TxnId) → HasGone before modes done → HasGone before modes (prepared done txn)
  unfolding prepared
  gone-prepared done txn gone = gone-part done _ (grown-prepare before.part done.state.decisions done.state.part txn gone.grown) gone

  -- an end
  gone-finished : (done : Stepped) (txn : TxnId) (commit : Bool) → HasGone before modes done → HasGone before modes (finished done txn commit)
  unfolding finished
  gone-finished done txn commit gone =
      cond_both (is_open done.state.part.log txn) (with_part done (after_finish done.state.part txn commit)) done (HasGone before modes)
      (λ is. gone-part done (after_finish done.state.part txn commit)
      (grown-finish before.part done.state.decisions done.state.part txn commit gone.grown) gone)
      (λ none. gone)

  -- a record is told
  gone-told : (primary : ℕ → ℕ) (done : Stepped) (number : ℕ) (content : LogRec) → HasGone before modes done →
      HasGone before modes (told primary done number content)
  unfolding told
  gone-told primary done number (records.Prepared txn) gone = gone-message done _ (Vote done.state.v txn) tt gone
  gone-told primary done number (records.Decide txn) gone =
      gone-controlled primary done (after_safe done.state.control number) (safe_acts done.state.control number) gone
  gone-told primary done number content gone = gone

  -- records are
  gone-entries : (primary : ℕ → ℕ) (done : Stepped) (entries : List LogEntry) → HasGone before modes done →
      HasGone before modes (fold (entry_told primary) done entries)
  gone-entries primary done [] gone = gone
  gone-entries primary done (entry ∷ entries) gone =
      gone-entries primary (entry_told primary done entry) entries (gone-told primary done entry.number entry.content gone)

  -- what became safe is told
  gone-all_told : (primary : ℕ → ℕ) (old : ℕ) (done : Stepped) → HasGone before modes done → HasGone before modes (all_told primary old done)
  unfolding all_told
  gone-all_told primary old done gone = gone-entries primary done (entries_between old (safe_number done.state) done.state.part.log) gone

-- before a step
gone-first : (state : ReplicaState) → IsSaid state.part state.decisions → HasGone state state.modes (started state)
gone-first state said = record {
  grown = grown-none state.part state.decisions said;
  own = refl;
  kept = refl;
  sends = All-nil (λ (send : Outgoing). IsOutward send.payload);
}

-- a message is taken
gone-taken : (primary : ℕ → ℕ) (state : ReplicaState) (from : ℕ) (content : Content) (short : Bool) → IsSaid state.part state.decisions →
    HasGone state (modes_with state.modes content) (taken primary (started state) from content short)
unfolding commanded answered voted
gone-taken primary state from (Command v txn number what) short said =
    gone-controlled state state.modes primary (started state) (after_command state.control txn number what) (command_acts state.control txn number what)
    (gone-first state said)
gone-taken primary state from (Answer v txn number answer) short said =
    gone-controlled state state.modes primary (started state) (after_answer state.control v txn number answer) (answer_acts state.control v txn number answer)
    (gone-first state said)
gone-taken primary state from (Vote v txn) short said =
    gone-controlled state state.modes primary (started state) (after_vote state.control v txn) (vote_acts state.control v txn) (gone-first state said)
gone-taken primary state from (Ask v txn number table key op) short said =
    gone-asked state state.modes (started state) from v txn number (table, key) op short (gone-first state said)
gone-taken primary state from (Prepare v txn) short said = gone-prepared state state.modes (started state) txn (gone-first state said)
gone-taken primary state from (Finish v txn commit) short said = gone-finished state state.modes (started state) txn commit (gone-first state said)
gone-taken primary state from (Decision v txn commit) short said = gone-finished state state.modes (started state) txn commit (gone-first state said)
gone-taken primary state from (LogAck v number) short said = record {
  grown = grown-none state.part state.decisions said;
  own = refl;
  kept = refl;
  sends = All-nil (λ (send : Outgoing). IsOutward send.payload);
}
gone-taken primary state from content short said = gone-first state said

-- ---- what is shipped

-- numbered entries are those from their first number on
all_from : (next n : ℕ) (entries : List LogEntry) → IsNumberedFrom n entries → next ≤ n → entries_from next entries ≡ entries
all_from next n [] numbered from = refl
all_from next n (entry ∷ entries) numbered from =
    cond-true (nat_le next entry.number) _ _ (le-leb next entry.number (let first = numbered.0 in omega (arith, first, from)))
    ∙ ap (λ (rest : List LogEntry). entry ∷ rest) (all_from next (n + 1) entries numbered.1 (omega (arith, from)))

-- what was appended to a numbered log are the entries from the next number on
news_from : (next : ℕ) (log news : List LogEntry) → IsNumberedFrom 1 (log ++ news) → next ≡ length log + 1 → entries_from next (log ++ news) ≡ news
news_from next log news numbered is =
    let parts = IsNumberedFrom-append 1 log news numbered in
    filter-append (λ (entry : LogEntry). nat_le next entry.number) log news
    ∙ ap (λ (old : List LogEntry). old ++ entries_from next news) (none_from next 1 log parts.0 (omega (arith, is)))
    ∙ all_from next (1 + length log) news parts.1 (omega (arith, is))

-- what a step of a primary does, whose standby is at this node
pub record HasShipped (standby : ℕ) (before : ReplicaState) (modes : ModesState) (after : Stepped) : Type 0 where
  pub news : List LogEntry
  pub log : after.state.part.log ≡ before.part.log ++ news
  pub said : IsSaid after.state.part after.state.decisions
  pub own : after.state.v ≡ before.v
  pub kept : after.state.modes ≡ modes
  pub others : List Outgoing
  pub outward : AreOutward others
  pub sends : after.step.sends ≡ map (log_message standby before.v) news ++ others

-- a step of a primary with a standby
pub shipped-step : (primary : ℕ → ℕ) (standby : ℕ) (state : ReplicaState) (from : ℕ) (content : Content) (short : Bool) → IsSaid state.part state.decisions →
    (modes_with state.modes content).mode ≡ Pair standby → HasShipped standby state (modes_with state.modes content) (stepped primary state from content short)
shipped-step primary standby state from content short said paired =
    let modes : ModesState = modes_with state.modes content in
    let done : Stepped = all_told primary (safe_number state) (taken primary (started state) from content short) in
    let gone : HasGone state modes done = gone-all_told state modes primary (safe_number state) _ (gone-taken primary state from content short said) in
    let numbered : IsNumberedFrom 1 (state.part.log ++ gone.grown.news) =
    subst (IsNumberedFrom 1) gone.grown.log (counted-said done.state.part done.state.decisions gone.grown.said).numbered in
    let news : entries_from state.part.next done.state.part.log ≡ gone.grown.news =
    ap (entries_from state.part.next) gone.grown.log
    ∙ news_from state.part.next state.part.log gone.grown.news numbered (counted-said state.part state.decisions said).next in
    record {
      news = gone.grown.news;
      log = gone.grown.log;
      said = gone.grown.said;
      own = gone.own;
      kept = gone.kept;
      others = done.step.sends;
      outward = gone.sends;
      sends =
          ap (λ (mode : Mode). log_messages mode done.state.v (entries_from state.part.next done.state.part.log) ++ done.step.sends)
          (ap (λ (m : ModesState). m.mode) gone.kept ∙ paired)
          ∙ ap (λ (v : ℕ). map (log_message standby v) (entries_from state.part.next done.state.part.log) ++ done.step.sends) gone.own
          ∙ ap (λ (entries : List LogEntry). map (log_message standby state.v) entries ++ done.step.sends) news;
    }
