-- What the transcript shows of a session is what it has after a step of the front.
use Rattle.std.proofs.Common.{◌≡◌, ℕ, ◌%◌, ◌<◌, Bool, true, false, List, [], ◌∷◌, ◌++◌, map, filter, Option, Result, Ok, Err, refl, sym, ap, ◌∙◌, subst, subst₂}
use Rattle.std.proofs.lemmas.Bool.{true≢false}
use Rattle.std.proofs.lemmas.List.{append-nil}
use Rattle.cl_actor.specs.Core.{Noted}
use Rattle.cl_endpoint.specs.declared.limits.TheConstants.{ACTORS}
use Rattle.cl_exchange.specs.Stage.{SessionView, Stage, outside, ready, asking, working, telling, IsAt, IsInTransaction, view_of, is_of_session}
use Rattle.cl_exchange.proofs.Fronts.{one_here}
use Rattle.cl_exchange.proofs.Resting.{turned_view, stage_still}
use Rattle.cl_front.specs.declared.current.Current.{Current}
use Rattle.cl_front.specs.Session.{SessionState, is_outstanding, is_outstanding_in, with_waiting, Turned, joined, turned_by, next_current, taken}
use Rattle.cl_front.proofs.Turns.{taken-outstanding, taken-empty, taken-turn, next-outstanding}
use Rattle.cl_runs.specs.Queues.{sent_to}
use Rattle.cl_runs.specs.World.{Shape}
use Rattle.cl_lines.specs.declared.out.Out.TheVariants.{Answer}
use Rattle.cl_serial.specs.Transactions.{Session}
use Rattle.cl_serial.specs.Transcript.{TranscriptEntry, written}
use Rattle.cl_system.specs.Replicas.{ReplicaWorld, nothing_noted}
use Rattle.cl_told.specs.Told.{TellsStage, IsTold, IsToldOutstanding, pending, told_session}
use Rattle.cl_told.proofs.Shown.{Shows}
use Rattle.cl_told.proofs.Turning.{IsFree, free_still, outstanding_still, AreTold, all_answered, one_sent, ShownTurns, turns_told}
use Rattle.cl_types.specs.declared.answers.Outcome.{Outcome}
use Rattle.cl_types.specs.declared.operations.Command.{Command as ClientCommand}
use Rattle.cl_wire.specs.Message.{Command}

-- the session of a view is told by a transcript
pub record IsToldView (nodes s : ℕ) (view : SessionView) (transcript : List TranscriptEntry) : Type 0 where
  pub left : List ClientCommand
  pub told : Session
  pub shows : Shows s transcript left told
  pub rests : is_outstanding view.session ≡ false → view.session.waiting ≡ []
  pub tells : (stage : Stage) → IsAt nodes s view stage → TellsStage left told view.session stage

pub view_from : (shape : Shape) (world : ReplicaWorld) (s : ℕ) → IsTold shape world s → IsToldView shape.nodes s (view_of shape.nodes world s) world.front.transcript
view_from shape world s is = record {
  left = pending s world.front.transcript;
  told = told_session s world.front.transcript;
  shows = record { few = is.few; left_is = refl; told_is = refl };
  rests = is.rests;
  tells = is.tells;
}

pub told_from : (shape : Shape) (world : ReplicaWorld) (s : ℕ) → IsToldView shape.nodes s (view_of shape.nodes world s) world.front.transcript → IsTold shape world s
told_from shape world s is = record {
  few = is.shows.few;
  rests = is.rests;
  tells = λ stage at. subst₂ (λ left told. TellsStage left told (view_of shape.nodes world s).session stage) (sym is.shows.left_is) (sym is.shows.told_is) (is.tells stage at);
}

-- the same view, and a transcript that shows the same
pub still_told : (nodes s : ℕ) {before after : SessionView} {transcript longer : List TranscriptEntry} → after ≡ before → (is : IsToldView nodes s before transcript) → Shows s longer is.left is.told → IsToldView nodes s after longer
still_told nodes s {before} {after} {transcript} {longer} same is shows =
    subst (λ view. IsToldView nodes s view longer) (sym same) (record { left = is.left; told = is.told; shows = shows; rests = is.rests; tells = is.tells })

-- the same transcript
pub same_told : (nodes s : ℕ) {before after : SessionView} (transcript : List TranscriptEntry) → after ≡ before → IsToldView nodes s before transcript → IsToldView nodes s after transcript
same_told nodes s {before} {after} transcript same is = subst (λ view. IsToldView nodes s view transcript) (sym same) is

-- ---- turns

module _ (shape : Shape) (s : ℕ) (below : s % shape.nodes < ACTORS) (view : SessionView) (none : view.commands ≡ []) (turned : Turned) where
  -- the view after the turns
  abbrev after : SessionView
  after = turned_view shape s below view turned

  busy_not_free : (current : Current) → is_outstanding turned.session ≡ false → IsInTransaction after current true → ⊥
  busy_not_free current free inside = true≢false (sym inside.waits ∙ (sym (ap is_outstanding_in inside.inside) ∙ free))

  answered_tells : (left : List ClientCommand) (told : Session) → is_outstanding turned.session ≡ false → left ≡ [] → IsFree told turned.session turned.session.current →
      (stage : Stage) → IsAt shape.nodes s after stage → TellsStage left told turned.session stage
  answered_tells left told free left_is is outside at = (left_is, subst (IsFree told turned.session) at.0 is)
  answered_tells left told free left_is is (ready current entry) at = (left_is, subst (IsFree told turned.session) at.inside.inside is)
  answered_tells left told free left_is is (asking current what entries) at = absurd (busy_not_free current free at.inside)
  answered_tells left told free left_is is (working current entry) at = absurd (busy_not_free current free at.inside)
  answered_tells left told free left_is is (telling current outcome entries) at = absurd (busy_not_free current free at.inside)

  turned_tells : (left : List ClientCommand) (told : Session) → AreTold (nothing_noted shape) s left told turned → (stage : Stage) → IsAt shape.nodes s after stage → TellsStage left told turned.session stage
  turned_tells left told (all_answered sends free left_is waits is) stage at = answered_tells left told free left_is is stage at
  turned_tells left told (one_sent command next number sends current outstanding left_is is) stage at = by stage at
    where
      one : after.commands ≡ Command (s % shape.nodes) (record { session = s; number = number }) next.commands command ∷ []
      one =
          ap (λ list. list ++ filter (is_of_session s) (sent_to (s % shape.nodes) turned.sends)) none
          ∙ (ap (λ sends. filter (is_of_session s) (sent_to (s % shape.nodes) sends)) sends ∙ one_here shape (record { session = s; number = number }) next.commands command below)

      by : (stage : Stage) → IsAt shape.nodes s after stage → TellsStage left told turned.session stage
      by outside at = let free = at.0 in absurd cc
      by (ready other entry) at = let waits = at.inside.waits in let inside = at.inside.inside in absurd cc
      by (asking other what entries) at =
          let here = at.commands in
          let inside = at.inside.inside in
          let same : command ≡ what = (let first = one in cc) in
          let it : next ≡ other = cc in
          (left_is ∙ ap (λ c. c ∷ turned.session.waiting) same, subst₂ (λ c w. IsToldOutstanding told turned.session c w) it same is)
      by (working other entry) at = let here = at.commands in let first = one in absurd cc
      by (telling other outcome entries) at = let here = at.commands in let first = one in absurd cc

  turned_rests : (left : List ClientCommand) (told : Session) → AreTold (nothing_noted shape) s left told turned → is_outstanding turned.session ≡ false → turned.session.waiting ≡ []
  turned_rests left told (all_answered sends free left_is waits is) idle = waits
  turned_rests left told (one_sent command next number sends current outstanding left_is is) idle = absurd (true≢false (sym outstanding ∙ (sym (ap is_outstanding_in current) ∙ idle)))

  pub turned_told : (transcript : List TranscriptEntry) → ShownTurns (nothing_noted shape) s transcript turned → IsToldView shape.nodes s after (transcript ++ map written turned.outs)
  turned_told transcript shown =
      record { left = shown.left; told = shown.told; shows = shown.shows; rests = turned_rests shown.left shown.told shown.are; tells = turned_tells shown.left shown.told shown.are }

-- ---- one command more of the session

-- a session without an outstanding command at a stage
pub record IsFreeView (view : SessionView) (left : List ClientCommand) (told : Session) : Type 0 where
  pub commands : view.commands ≡ []
  pub left_is : left ≡ []
  pub is : IsFree told view.session view.session.current

module _ (nodes s : ℕ) (view : SessionView) (transcript : List TranscriptEntry) (is : IsToldView nodes s view transcript) where
  not_busy : (current : Current) → is_outstanding view.session ≡ false → IsInTransaction view current true → ⊥
  not_busy current free inside = true≢false (sym inside.waits ∙ (sym (ap is_outstanding_in inside.inside) ∙ free))

  pub free_view : (stage : Stage) → IsAt nodes s view stage → is_outstanding view.session ≡ false → IsFreeView view is.left is.told
  free_view outside at free =
      let tells = is.tells outside at in
      record { commands = at.1.commands; left_is = tells.0; is = subst (IsFree is.told view.session) (sym at.0) tells.1 }
  free_view (ready current entry) at free =
      let tells = is.tells (ready current entry) at in
      record { commands = at.commands; left_is = tells.0; is = subst (IsFree is.told view.session) (sym at.inside.inside) tells.1 }
  free_view (asking current what entries) at free = absurd (not_busy current free at.inside)
  free_view (working current entry) at free = absurd (not_busy current free at.inside)
  free_view (telling current outcome entries) at free = absurd (not_busy current free at.inside)

  -- one command more waits
  abbrev pub waiting_view : ClientCommand → SessionView
  waiting_view command = record view { session = with_waiting view.session command }

  behind : (command what : ClientCommand) → is.left ≡ what ∷ view.session.waiting → is.left ++ command ∷ [] ≡ what ∷ (view.session.waiting ++ command ∷ [])
  behind command what left_is = ap (λ list. list ++ command ∷ []) left_is

  busy_tells : (command : ClientCommand) → is_outstanding view.session ≡ true → (stage : Stage) → IsAt nodes s view stage → TellsStage (is.left ++ command ∷ []) is.told (with_waiting view.session command) stage
  busy_tells command busy outside at = absurd (true≢false (sym busy ∙ ap is_outstanding_in at.0))
  busy_tells command busy (ready current entry) at = absurd (true≢false (sym busy ∙ (ap is_outstanding_in at.inside.inside ∙ at.inside.waits)))
  busy_tells command busy (asking current what entries) at =
      let tells = is.tells (asking current what entries) at in
      (behind command what tells.0, outstanding_still is.told view.session (with_waiting view.session command) refl current what tells.1)
  busy_tells command busy (working current entry) at =
      let tells = is.tells (working current entry) at in
      (tells.0, behind command tells.0 tells.1, outstanding_still is.told view.session (with_waiting view.session command) refl current tells.0 tells.2, tells.3)
  busy_tells command busy (telling current outcome entries) at =
      let tells = is.tells (telling current outcome entries) at in
      (tells.0, behind command tells.0 tells.1, outstanding_still is.told view.session (with_waiting view.session command) refl current tells.0 tells.2, tells.3)

  busy_told : (command : ClientCommand) (longer : List TranscriptEntry) → is_outstanding view.session ≡ true → Shows s longer (is.left ++ command ∷ []) is.told → IsToldView nodes s (waiting_view command) longer
  busy_told command longer busy shows = record {
    left = is.left ++ command ∷ [];
    told = is.told;
    shows = shows;
    rests = λ idle. absurd (true≢false (sym busy ∙ idle));
    tells = λ stage at. busy_tells command busy stage (stage_still s (waiting_view command) view.session refl refl nodes stage at);
  }

-- the turns with one command more
module _ (shape : Shape) (s : ℕ) (below : s % shape.nodes < ACTORS) (view : SessionView) (transcript : List TranscriptEntry) (is : IsToldView shape.nodes s view transcript) (command : ClientCommand) (longer : List TranscriptEntry)
    (shows : Shows s longer (is.left ++ command ∷ []) is.told) where
  abbrev with_one : SessionView
  with_one = record view { session = with_waiting view.session command }

  abbrev its_turns : Turned
  its_turns = taken (nothing_noted shape) s (with_waiting view.session command)

  free_turns : (stage : Stage) → IsAt shape.nodes s view stage → is_outstanding view.session ≡ false → IsToldView shape.nodes s (turned_view shape s below with_one its_turns) (longer ++ map written its_turns.outs)
  free_turns stage at free =
      let view_is = free_view shape.nodes s view transcript is stage at free in
      let lefts : is.left ++ command ∷ [] ≡ view.session.waiting ++ command ∷ [] = ap (λ list. list ++ command ∷ []) (view_is.left_is ∙ sym (is.rests free)) in
      turned_told shape s below with_one view_is.commands its_turns longer
      (turns_told (nothing_noted shape) s (view.session.waiting ++ command ∷ []) view.session.begun view.session.current longer is.told free (subst (λ left. Shows s longer left is.told) lefts shows)
      (free_still is.told view.session (with_waiting view.session command) refl view.session.current view_is.is))

  busy_turns : is_outstanding view.session ≡ true → filter (is_of_session s) (sent_to (s % shape.nodes) []) ≡ [] → IsToldView shape.nodes s (turned_view shape s below with_one its_turns) (longer ++ map written its_turns.outs)
  busy_turns busy nothing =
      subst (λ turns. IsToldView shape.nodes s (turned_view shape s below with_one turns) (longer ++ map written turns.outs)) (sym (taken-outstanding (nothing_noted shape) s (with_waiting view.session command) busy))
      (subst₂ (λ commands list. IsToldView shape.nodes s (record with_one { commands = commands }) list)
      (sym (ap (λ more. view.commands ++ more) nothing ∙ append-nil view.commands)) (sym (append-nil longer))
      (busy_told shape.nodes s view transcript is command longer busy shows))

  pub one_turned : (stage : Stage) → IsAt shape.nodes s view stage → filter (is_of_session s) (sent_to (s % shape.nodes) []) ≡ [] →
      IsToldView shape.nodes s (turned_view shape s below with_one its_turns) (longer ++ map written its_turns.outs)
  one_turned stage at nothing = by (is_outstanding view.session) refl
    where
      by : (busy : Bool) → is_outstanding view.session ≡ busy → IsToldView shape.nodes s (turned_view shape s below with_one its_turns) (longer ++ map written its_turns.outs)
      by true busy = busy_turns busy nothing
      by false free = free_turns stage at free

-- ---- what turns print

-- outcomes of the session alone
pub record IsPrinted (s : ℕ) (turns : Turned) : Type 0 where
  pub outcomes : List Outcome
  pub is : map written turns.outs ≡ map (λ outcome. written (Answer s outcome)) outcomes

module _ (noted : Noted) (s : ℕ) where
  printed_turn : (session : SessionState) (command : ClientCommand) → IsPrinted s (taken noted s session) → (next : Result Current Outcome) → next_current session.current command ≡ next →
      IsPrinted s (joined (turned_by noted s session command next) (taken noted s (turned_by noted s session command next).session))
  printed_turn session command rest (Ok next) may =
      let turn : Turned = turned_by noted s session command (Ok next) in
      subst (λ turns. IsPrinted s (joined turn turns)) (sym (taken-outstanding noted s turn.session (next-outstanding session.current command next may))) (record { outcomes = []; is = refl })
  printed_turn session command rest (Err outcome) may = record { outcomes = outcome ∷ rest.outcomes; is = ap (λ list. written (Answer s outcome) ∷ list) rest.is }

  printed_free : (waiting : List ClientCommand) (begun : ℕ) (current : Option Current) → is_outstanding_in current ≡ false → IsPrinted s (taken noted s (record { waiting = waiting; begun = begun; current = current }))
  printed_free [] begun current free =
      subst (IsPrinted s) (sym (taken-empty noted s (record { waiting = []; begun = begun; current = current }) refl)) (record { outcomes = []; is = refl })
  printed_free (command ∷ rest) begun current free =
      let session : SessionState = record { waiting = rest; begun = begun; current = current } in
      subst (IsPrinted s) (sym (taken-turn noted s session command free)) (printed_turn session command (printed_free rest begun current free) (next_current current command) refl)

  pub printed : (session : SessionState) → IsPrinted s (taken noted s session)
  printed session = by (is_outstanding session) refl
    where
      by : (busy : Bool) → is_outstanding session ≡ busy → IsPrinted s (taken noted s session)
      by true busy = subst (IsPrinted s) (sym (taken-outstanding noted s session busy)) (record { outcomes = []; is = refl })
      by false free = printed_free session.waiting session.begun session.current free
