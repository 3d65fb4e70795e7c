-- A controller takes a command, an answer or a vote: its command is the first without an answer in the transcript, and so is the one of the outcome.
use Rattle.std.proofs.Common.{◌≡◌, ℕ, Bool, true, false, List, [], ◌∷◌, ◌++◌, filter, Option, Some, None, refl, sym, ap, ◌∙◌, subst}
use Rattle.std.specs.Option.{option_map_or}
use Rattle.std.proofs.lemmas.Bool.{true≢false, false≢true, cond-false, and_parts}
use Rattle.cl_control.specs.Calls.{commit_phase, asked, committing, is_asked, is_preparing, is_last_vote, counts_answer, counts_vote, voted}
use Rattle.cl_control.specs.State.{Entry, new_entry, changed, without, with_vote, is_unanimous, entry_named}
use Rattle.cl_control.specs.declared.entry.Phase.{Phase}
use Rattle.cl_control.specs.declared.entry.Phase.TheVariants.{Idle, Asked, Preparing, Decided, Logged}
use Rattle.cl_exchange.specs.Stage.{SessionView, Stage, outside, ready, asking, working, telling, IsAt, IsInTransaction, IsAsking, IsWorking, last_begun, is_of_session}
use Rattle.cl_exchange.proofs.Changes.{Does, answered_change, outcome_of, begin_does, work_does, commit_none_does, commit_some_does, abort_does, answer_does, vote_one_does, vote_last_does}
use Rattle.cl_exchange.proofs.Commands.{view_after, participants_are}
use Rattle.cl_exchange.proofs.Holding.{Holding, changed_one, found_one}
use Rattle.cl_exchange.proofs.Opens.{of_session}
use Rattle.cl_exchange.proofs.Replies.{answer_next, vote_next}
use Rattle.cl_exchange.proofs.Told.{said_to, said-own}
use Rattle.cl_exchange.proofs.Views.{same_parts}
use Rattle.cl_front.specs.declared.current.Current.{Current}
use Rattle.cl_lone.specs.Lone.{lone_step}
use Rattle.cl_serial.specs.Transactions.{Session}
use Rattle.cl_steps.specs.declared.actors.TheConstants.{FRONT}
use Rattle.cl_system.specs.Replicas.{own_primary}
use Rattle.cl_told.specs.Told.{TellsStage, IsToldOutstanding, IsCommandOf, IsOutcomeOf}
use Rattle.cl_types.specs.Placement.{IsNodeCount, virtual_node_of}
use Rattle.cl_types.specs.declared.answers.AbortCause.TheVariants.{Client}
use Rattle.cl_types.specs.declared.answers.Answer.{Answer as OperationAnswer}
use Rattle.cl_types.specs.declared.answers.Answer.TheVariants as answers
use Rattle.cl_types.specs.declared.answers.Outcome.{Outcome as CommandOutcome}
use Rattle.cl_types.specs.declared.answers.Outcome.TheVariants.{Begun, Committed, Aborted}
use Rattle.cl_types.specs.declared.operations.Command.{Command as ClientCommand}
use Rattle.cl_types.specs.declared.operations.Command.TheVariants.{Begin, Work, Commit, Abort}
use Rattle.cl_types.specs.declared.operations.TxnId.{TxnId}
use Rattle.cl_vnode.specs.Replica.{ReplicaState}
use Rattle.cl_vnode.specs.Step.{Stepped}
use Rattle.cl_wire.specs.Message.{Content, Command, Outcome, Answer, Vote}

-- these commands and this session tell the view, at whatever stage it is
abbrev pub Tells : ℕ → ℕ → SessionView → List ClientCommand → Session → Type 0
Tells nodes s view left told = (stage : Stage) → IsAt nodes s view stage → TellsStage left told view.session stage

-- a session whose command has no answer in the transcript
pub record IsBusy (view : SessionView) (left : List ClientCommand) (told : Session) (current : Current) (what : ClientCommand) : Type 0 where
  pub inside : IsInTransaction view current true
  pub left_is : left ≡ what ∷ view.session.waiting
  pub is : IsToldOutstanding told view.session current what

module _ (nodes s : ℕ) (view : SessionView) (left : List ClientCommand) (told : Session) (current : Current) (what : ClientCommand) (busy : IsBusy view left told current what) where
  -- it is in one transaction
  same_current : (other : Current) (outstanding : Bool) → IsInTransaction view other outstanding → current ≡ other
  same_current other outstanding inside = let mine = busy.inside.inside in let its = inside.inside in cc

  -- its outcome is on its way back
  said_tells : (txn : TxnId) (number : ℕ) (outcome : CommandOutcome) → view.outcomes ≡ Outcome txn number outcome ∷ [] → IsOutcomeOf what outcome → Tells nodes s view left told
  said_tells txn number outcome said fits outside at = let none = at.1.outcomes in absurd cc
  said_tells txn number outcome said fits (ready other entry) at = let none = at.outcomes in absurd cc
  said_tells txn number outcome said fits (asking other command entries) at = let none = at.outcomes in absurd cc
  said_tells txn number outcome said fits (working other entry) at = let none = at.outcomes in absurd cc
  said_tells txn number outcome said fits (telling other given entries) at =
      let here = at.outcomes in
      let same : outcome ≡ given = cc in
      let it : current ≡ other = same_current other true at.inside in
      (what, busy.left_is, subst (λ c. IsToldOutstanding told view.session c what) it busy.is, subst (IsOutcomeOf what) same fits)

  -- the controller is at it
  working_tells : (entry : Entry) → view.commands ≡ [] → view.entries ≡ entry ∷ [] → view.outcomes ≡ [] → IsCommandOf entry.phase what → Tells nodes s view left told
  working_tells entry none has untold fits outside at = let nothing = at.1.entries in absurd cc
  working_tells entry none has untold fits (ready other its) at =
      let it : current ≡ other = same_current other false at.inside in
      let mine = busy.inside.waits in
      absurd (true≢false (sym mine ∙ (ap (λ (c : Current). c.outstanding) it ∙ at.inside.waits)))
  working_tells entry none has untold fits (asking other command entries) at = let some = at.commands in absurd cc
  working_tells entry none has untold fits (working other its) at =
      let here = at.entries in
      let same : entry ≡ its = cc in
      let it : current ≡ other = same_current other true at.inside in
      (what, busy.left_is, subst (λ c. IsToldOutstanding told view.session c what) it busy.is, subst (λ (e : Entry). IsCommandOf e.phase what) same fits)
  working_tells entry none has untold fits (telling other given entries) at = let some = at.outcomes in absurd cc

-- the same session is as busy
busy_still : (view other : SessionView) (left : List ClientCommand) (told : Session) (current : Current) (what : ClientCommand) → other.session ≡ view.session → IsBusy view left told current what → IsBusy other left told current what
busy_still view other left told current what same busy = record {
  inside = record { inside = ap (λ session. session.current) same ∙ busy.inside.inside; waits = busy.inside.waits; operations = busy.inside.operations };
  left_is = busy.left_is ∙ ap (λ session. what ∷ session.waiting) (sym same);
  is = subst (λ session. IsToldOutstanding told session current what) (sym same) busy.is;
}

-- the view by what the step does
next_tells : (nodes : ℕ) (view : SessionView) (commands : List Content) (state : ReplicaState) (txn : TxnId) (stepped : Stepped) (change : List Entry → List Entry) (said : Option (ℕ × CommandOutcome)) →
    view.entries ≡ of_session txn.session state.control.transactions → Does state txn stepped change said → (mine : List Entry) → change view.entries ≡ mine → (left : List ClientCommand) (told : Session) →
    Tells nodes txn.session (record { session = view.session; commands = commands; entries = mine; outcomes = said_to txn said }) left told → Tells nodes txn.session (view_after view txn.session commands stepped) left told
next_tells nodes view commands state txn stepped change said same does mine is left told tells =
    subst (λ next. Tells nodes txn.session next left told) (sym (same_parts (view_after view txn.session commands stepped) (record { session = view.session; commands = commands; entries = mine; outcomes = said_to txn said }) refl refl
    (ap (of_session txn.session) does.entries ∙ (does.is.own state.control.transactions ∙ (ap change (sym same) ∙ is)))
    (ap (filter (is_of_session txn.session)) does.told ∙ said-own txn said))) tells

-- ---- a command

module _ (nodes s : ℕ) (view : SessionView) (current : Current) (state : ReplicaState) (counted : IsNodeCount state.control.nodes) (same : view.entries ≡ of_session s state.control.transactions)
    (left : List ClientCommand) (told : Session) (v : ℕ) (mark : Bool) where
  abbrev name : TxnId
  name = last_begun s view.session

  -- the step ends with this outcome
  ends_with : (what : ClientCommand) (stepped : Stepped) (change : List Entry → List Entry) (number : ℕ) (outcome : CommandOutcome) → IsBusy view left told current what → IsOutcomeOf what outcome →
      Does state name stepped change (Some (number, outcome)) → Tells nodes s (view_after view s [] stepped) left told
  ends_with what stepped change number outcome busy fits does =
      let next : SessionView = record { session = view.session; commands = []; entries = change view.entries; outcomes = said_to name (Some (number, outcome)) } in
      next_tells nodes view [] state name stepped change (Some (number, outcome)) same does (change view.entries) refl left told
      (said_tells nodes s next left told current what (busy_still view next left told current what refl busy) name number outcome refl fits)

  -- or it is in work
  goes_on : (what : ClientCommand) (stepped : Stepped) (change : List Entry → List Entry) (entry : Entry) → IsBusy view left told current what → change view.entries ≡ entry ∷ [] → IsCommandOf entry.phase what →
      Does state name stepped change None → Tells nodes s (view_after view s [] stepped) left told
  goes_on what stepped change entry busy is fits does =
      let next : SessionView = record { session = view.session; commands = []; entries = entry ∷ []; outcomes = [] } in
      next_tells nodes view [] state name stepped change None same does (entry ∷ []) is left told
      (working_tells nodes s next left told current what (busy_still view next left told current what refl busy) entry refl refl refl fits)

  commit_tells : (entries : List Entry) → IsAsking nodes s view current Commit entries → IsBusy view left told current Commit →
      Tells nodes s (view_after view s [] (lone_step own_primary state FRONT (Command v name current.commands Commit) mark)) left told
  commit_tells entries at busy = by at.before.1.0.participants refl
    where
      by : (vs : List ℕ) → at.before.1.0.participants ≡ vs → Tells nodes s (view_after view s [] (lone_step own_primary state FRONT (Command v name current.commands Commit) mark)) left told
      by [] none =
          ends_with Commit _ (without name) current.commands Committed busy tt
          (commit_none_does state counted name FRONT v current.commands mark (participants_are nodes s view current state counted same at.before.1.0 (at.has ∙ at.before.1.1) at.before.1.2 ∙ none))
      by (w ∷ vs) some =
          let entry : Entry = at.before.1.0 in
          let change : Entry → Entry = committing current.commands in
          goes_on Commit _ (changed name change) (change entry) busy
          (ap (changed name change) (at.has ∙ at.before.1.1) ∙ changed_one name entry (sym at.before.1.2.of) change)
          (subst (λ list. IsCommandOf (commit_phase current.commands list) Commit) (sym some) tt)
          (commit_some_does state counted name FRONT v current.commands mark w vs (participants_are nodes s view current state counted same entry (at.has ∙ at.before.1.1) at.before.1.2 ∙ some))

  pub command_tells : (what : ClientCommand) (entries : List Entry) → IsAsking nodes s view current what entries → IsBusy view left told current what →
      Tells nodes s (view_after view s [] (lone_step own_primary state FRONT (Command v name current.commands what) mark)) left told
  command_tells Begin entries at busy = ends_with Begin _ (λ list. list ++ new_entry name ∷ []) current.commands Begun busy tt (begin_does state counted name FRONT v current.commands mark)
  command_tells (Work table key op) entries at busy =
      let entry : Entry = at.before.1.0 in
      let change : Entry → Entry = asked current.commands (virtual_node_of key state.control.nodes) in
      goes_on (Work table key op) _ (changed name change) (change entry) busy
      (ap (changed name change) (at.has ∙ at.before.1.1) ∙ changed_one name entry (sym at.before.1.2.of) change) tt
      (work_does state counted name FRONT v current.commands table key op mark)
  command_tells Commit entries at busy = commit_tells entries at busy
  command_tells Abort entries at busy = ends_with Abort _ (without name) current.commands (Aborted Client) busy tt (abort_does state counted name FRONT v current.commands mark)

-- ---- an answer or a vote

-- an answer is to an operation
answer_fits : (state : ReplicaState) (counted : IsNodeCount state.control.nodes) (txn : TxnId) (number v : ℕ) (phase : Phase) (what : ClientCommand) (answer : OperationAnswer) → is_asked number v phase ≡ true → IsCommandOf phase what →
    IsOutcomeOf what (outcome_of state counted txn answer)
answer_fits state counted txn number v Idle what answer is of = absurd (false≢true is)
answer_fits state counted txn number v (Asked command w) (Work table key op) (answers.Done reply) is of = tt
answer_fits state counted txn number v (Asked command w) (Work table key op) (answers.Refused holder) is of = tt
answer_fits state counted txn number v (Asked command w) (Work table key op) answers.NoMemory is of = tt
answer_fits state counted txn number v (Asked command w) Begin answer is of = absurd of
answer_fits state counted txn number v (Asked command w) Commit answer is of = absurd of
answer_fits state counted txn number v (Asked command w) Abort answer is of = absurd of
answer_fits state counted txn number v (Preparing command) what answer is of = absurd (false≢true is)
answer_fits state counted txn number v (Decided command) what answer is of = absurd (false≢true is)
answer_fits state counted txn number v (Logged command) what answer is of = absurd (false≢true is)

-- votes are for a COMMIT
vote_fits : (phase : Phase) (what : ClientCommand) → is_preparing phase ≡ true → IsCommandOf phase what → IsOutcomeOf what Committed
vote_fits Idle what is of = absurd (false≢true is)
vote_fits (Asked command w) what is of = absurd (false≢true is)
vote_fits (Preparing command) Begin is of = absurd of
vote_fits (Preparing command) (Work table key op) is of = absurd of
vote_fits (Preparing command) Commit is of = tt
vote_fits (Preparing command) Abort is of = absurd of
vote_fits (Decided command) what is of = absurd (false≢true is)
vote_fits (Logged command) what is of = absurd (false≢true is)

module _ (nodes : ℕ) (view : SessionView) (state : ReplicaState) (counted : IsNodeCount state.control.nodes) (txn : TxnId) (same : view.entries ≡ of_session txn.session state.control.transactions) (holds : Holding txn.session view)
    (left : List ClientCommand) (told : Session) (tells : Tells nodes txn.session view left told) where
  -- the command that the controller is at
  busy_at : (current : Current) (entry : Entry) (at : IsWorking txn.session view current entry) → IsBusy view left told current (tells (working current entry) at).0
  busy_at current entry at = let it = tells (working current entry) at in record { inside = at.inside; left_is = it.1; is = it.2 }

  ended_tells : (current : Current) (what : ClientCommand) (stepped : Stepped) (change : List Entry → List Entry) (number : ℕ) (outcome : CommandOutcome) → IsBusy view left told current what → IsOutcomeOf what outcome →
      Does state txn stepped change (Some (number, outcome)) → Tells nodes txn.session (view_after view txn.session view.commands stepped) left told
  ended_tells current what stepped change number outcome busy fits does =
      let next : SessionView = record { session = view.session; commands = view.commands; entries = change view.entries; outcomes = said_to txn (Some (number, outcome)) } in
      next_tells nodes view view.commands state txn stepped change (Some (number, outcome)) same does (change view.entries) refl left told
      (said_tells nodes txn.session next left told current what (busy_still view next left told current what refl busy) txn number outcome refl fits)

  pub answer_tells : (from v number : ℕ) (answer : OperationAnswer) (mark : Bool) → counts_answer state.control v txn number ≡ true →
      Tells nodes txn.session (view_after view txn.session view.commands (lone_step own_primary state from (Answer v txn number answer) mark)) left told
  answer_tells from v number answer mark counts =
      let is = (answer_next nodes view state counted txn same holds from v number answer mark counts).0 in
      let it = tells (working is.current is.entry) is.working in
      ended_tells is.current it.0 _ (answered_change state counted txn answer) number (outcome_of state counted txn answer) (busy_at is.current is.entry is.working)
      (answer_fits state counted txn number v is.entry.phase it.0 answer is.passes it.3) (answer_does state counted txn from v number answer mark counts)

  pub vote_tells : (from v : ℕ) (mark : Bool) → counts_vote state.control v txn ≡ true → Tells nodes txn.session (view_after view txn.session view.commands (lone_step own_primary state from (Vote v txn) mark)) left told
  vote_tells from v mark counts =
      let is = (vote_next nodes view state counted txn same holds from v mark counts).0 in
      let preparing : is_preparing is.entry.phase ≡ true = (and_parts _ _ (and_parts _ _ is.passes).0).0 in
      by is.current is.entry is.working is.named preparing (is_last_vote state.control v txn) refl
    where
      by : (current : Current) (entry : Entry) → IsWorking txn.session view current entry → txn ≡ entry.txn → is_preparing entry.phase ≡ true → (last : Bool) → is_last_vote state.control v txn ≡ last →
          Tells nodes txn.session (view_after view txn.session view.commands (lone_step own_primary state from (Vote v txn) mark)) left told
      by current entry at named preparing true last =
          let it = tells (working current entry) at in
          ended_tells current it.0 _ (without txn) _ Committed (busy_at current entry at) (vote_fits entry.phase it.0 preparing it.3) (vote_last_does state counted txn from v mark counts last)
      by current entry at named preparing false one =
          let it = tells (working current entry) at in
          let found : entry_named txn state.control.transactions ≡ Some entry = found_one txn entry named state.control view.entries same at.entries in
          let unanimous : is_unanimous (with_vote v entry) ≡ false = sym (ap (λ x. option_map_or (λ e. is_unanimous (with_vote v e)) x false) found) ∙ one in
          let next : SessionView = record { session = view.session; commands = view.commands; entries = with_vote v entry ∷ []; outcomes = [] } in
          next_tells nodes view view.commands state txn _ (changed txn (voted v)) None same (vote_one_does state counted txn from v mark counts one) (with_vote v entry ∷ [])
          (ap (changed txn (voted v)) at.entries ∙ (changed_one txn entry named (voted v) ∙ ap (λ x. x ∷ []) (cond-false _ _ _ unanimous))) left told
          (working_tells nodes txn.session next left told current it.0 (busy_still view next left told current it.0 refl (busy_at current entry at)) (with_vote v entry) at.commands refl refl it.3)
