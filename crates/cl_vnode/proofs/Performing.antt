-- What performing acts gives.
use Rattle.std.proofs.Common.{◌≡◌, ℕ, true, false, ◌||◌, List, [], ◌∷◌, ◌++◌, map, Option, Some, None, refl, sym, ◌∙◌, ap, subst, append_assoc, inl, inr}
use Rattle.std.proofs.lemmas.Bool.{false≢true}
use Rattle.std.proofs.lemmas.List.{append-nil}
use Rattle.cl_types.specs.declared.operations.TxnId.{TxnId}
use Rattle.cl_log.specs.declared.records.LogRec.{LogRec}
use Rattle.cl_log.specs.declared.records.LogRec.TheVariants as records
use Rattle.cl_log.specs.declared.records.LogRec.TheVariants.{Prepared}
use Rattle.cl_control.specs.declared.acts.Act.{Act}
use Rattle.cl_control.specs.declared.acts.Act.TheVariants.{Ask, Prepare, Finish, Decide, Say}
use Rattle.cl_control.specs.Calls.{counts_number, safe_acts, after_safe}
use Rattle.cl_control.specs.State.{ControlState}
use Rattle.cl_part.specs.declared.part.Part.{Part}
use Rattle.cl_repair.specs.declared.mode.Mode.{Mode}
use Rattle.cl_repair.specs.Modes.{ModesState}
use Rattle.cl_log.specs.Log.{entries}
use Rattle.cl_log.specs.LogEntry.{LogEntry}
use Rattle.cl_part.specs.State.{IsStateOf}
use Rattle.cl_steps.specs.declared.steps.Outgoing.{Outgoing}
use Rattle.cl_steps.specs.declared.steps.Steps.{Steps}
use Rattle.cl_steps.specs.Steps.{Step, step_of}
use Rattle.cl_vnode.specs.declared.vnode.Vnode.{Vnode}
use Rattle.cl_wire.specs.Message.{Vote}
use Rattle.cl_vnode.specs.declared.news.News.{News}
use Rattle.cl_vnode.specs.declared.news.News.TheVariants as news
use Rattle.cl_vnode.specs.Inputs.{is_decide, has_decide}
use Rattle.cl_vnode.specs.News.{news_of, news_in}
use Rattle.cl_vnode.specs.Sending.{HasStepped, IsSend, AreSends, AreActs, decide_in, message_of_act, told_at}
use Rattle.cl_vnode.specs.Step.{Stepped, with_message, with_control, performed, all_performed, home_of, told, log_messages, entries_from, shipped}

-- these messages more are sent
abbrev pub with_messages : Stepped → List Outgoing → Stepped
with_messages done messages = record done { step = record done.step { sends = done.step.sends ++ messages } }

performed_send : (primary : ℕ → ℕ) (nodes : ℕ) (done : Stepped) (act : Act) → IsSend nodes act → performed primary done act ≡ with_messages done (message_of_act primary act ∷ [])
unfolding performed
performed_send primary nodes done (Ask v txn number table key op) send = refl
performed_send primary nodes done (Prepare v txn) send = refl
performed_send primary nodes done (Finish v txn commit) send = refl
performed_send primary nodes done (Decide txn) send = absurd send
performed_send primary nodes done (Say txn number outcome) send = refl

-- acts that are messages leave the replica
pub all_sent : (primary : ℕ → ℕ) (nodes : ℕ) (done : Stepped) (acts : List Act) → AreSends nodes acts → all_performed primary done acts ≡ with_messages done (map (message_of_act primary) acts)
all_sent primary nodes done [] sends = ap (λ (ms : List Outgoing). record done { step = record done.step { sends = ms } }) (sym (append-nil done.step.sends))
all_sent primary nodes done (act ∷ acts) sends =
    ap (λ (d : Stepped). all_performed primary d acts) (performed_send primary nodes done act sends.0)
    ∙ all_sent primary nodes (with_messages done (message_of_act primary act ∷ [])) acts sends.1
    ∙ ap (λ (ms : List Outgoing). record done { step = record done.step { sends = ms } }) (append_assoc done.step.sends (message_of_act primary act ∷ []) (map (message_of_act primary) acts))

pub has_sent : (vnode : Vnode) (old new : Steps) (primary : ℕ → ℕ) (nodes : ℕ) (done : Stepped) (acts : List Act) → AreSends nodes acts → HasStepped vnode old done →
    step_of new ≡ record (step_of old) { sends = (step_of old).sends ++ map (message_of_act primary) acts } → HasStepped vnode new (all_performed primary done acts)
has_sent vnode old new primary nodes done acts sends has gave =
    subst (HasStepped vnode new) (sym (all_sent primary nodes done acts sends))
    (record { state = has.state; step = gave ∙ ap (λ (s : Step). record s { sends = s.sends ++ map (message_of_act primary) acts }) has.step })

-- ---- a call of the controller

-- the controller alone has changed, by this call
pub controlled : (old new : Vnode) (steps : Steps) (before : Stepped) (call : ControlState → ControlState) → HasStepped old steps before →
    new.v ≡ old.v → new.part ≡ old.part → new.modes ≡ old.modes → new.decisions ≡ old.decisions → new.control ≡ call old.control →
    HasStepped new steps (with_control before (call before.state.control))
controlled old new steps before call has same_v same_part same_modes same_decisions called = record {
  state = record {
    v = same_v ∙ has.state.v;
    part = subst (λ (p : Part). IsStateOf p before.state.part) (sym same_part) has.state.part;
    control = called ∙ ap call has.state.control;
    modes = same_modes ∙ has.state.modes;
    decisions = same_decisions ∙ has.state.decisions;
  };
  step = has.step;
}

-- and the acts that it gave, which are messages, were sent
pub controlled_sent : (old new : Vnode) (steps after : Steps) (primary : ℕ → ℕ) (nodes : ℕ) (before : Stepped) (given : List Act) (call : ControlState → ControlState) (acts : ControlState → List Act) →
    HasStepped old steps before → new.v ≡ old.v → new.part ≡ old.part → new.modes ≡ old.modes → new.decisions ≡ old.decisions →
    new.control ≡ call old.control → given ≡ acts old.control → AreSends nodes given →
    step_of after ≡ record (step_of steps) { sends = (step_of steps).sends ++ map (message_of_act primary) given } →
    HasStepped new after (all_performed primary (with_control before (call before.state.control)) (acts before.state.control))
controlled_sent old new steps after primary nodes before given call acts has same_v same_part same_modes same_decisions called gives sends gave =
    subst (λ (done : List Act). HasStepped new after (all_performed primary (with_control before (call before.state.control)) done)) (gives ∙ ap acts has.state.control)
    (has_sent new steps after primary nodes (with_control before (call before.state.control)) given sends
    (controlled old new steps before call has same_v same_part same_modes same_decisions called) gave)

-- ---- a lone Decide among the acts

pub decide_alone : (acts : List Act) (txn : TxnId) → decide_in acts ≡ Some txn → acts ≡ Decide txn ∷ []
decide_alone (Decide other ∷ []) txn is = let both : ◌≡◌ {A = Option TxnId} (Some other) (Some txn) = is in let same : other ≡ txn = cc in ap (λ t. Decide t ∷ []) same
decide_alone acts txn is = let none : ◌≡◌ {A = Option TxnId} None (Some txn) = is in cc

-- where there is none, the acts are messages, and none is a Decide
pub sends_without : (nodes : ℕ) (control : ControlState) (acts : List Act) → AreActs nodes control acts → decide_in acts ≡ None → AreSends nodes acts
sends_without nodes control acts (inl sends) none = sends
sends_without nodes control acts (inr (txn, alone, awaited)) none = let some : ◌≡◌ {A = Option TxnId} (Some txn) None = sym (ap decide_in alone) ∙ none in cc

no_decide_act : (nodes : ℕ) (act : Act) → IsSend nodes act → is_decide act ≡ false
no_decide_act nodes (Decide txn) send = absurd send
no_decide_act nodes act send = refl

pub no_decide : (nodes : ℕ) (acts : List Act) → AreSends nodes acts → has_decide acts ≡ false
no_decide nodes [] sends = refl
no_decide nodes (act ∷ acts) sends = ap (λ b. b || has_decide acts) (no_decide_act nodes act sends.0) ∙ no_decide nodes acts sends.1

-- where there is one, its transaction waits for the number
pub awaited_with : (nodes : ℕ) (control : ControlState) (acts : List Act) (txn : TxnId) → AreActs nodes control acts → decide_in acts ≡ Some txn → counts_number control txn ≡ true
awaited_with nodes control acts txn (inl sends) some =
    absurd (false≢true (sym (no_decide nodes acts sends) ∙ ap has_decide (decide_alone acts txn some)))
awaited_with nodes control acts txn (inr (other, alone, awaited)) some =
    let both : ◌≡◌ {A = Option TxnId} (Some other) (Some txn) = sym (ap decide_in alone) ∙ some in let same : other ≡ txn = cc in
    ap (counts_number control) (sym same) ∙ awaited

-- ---- a record that is safe

-- a replica tells what a record makes known
abbrev pub told_news : (ℕ → ℕ) → Stepped → ℕ → News → Stepped
told_news primary done number (news.Vote txn) = with_message done (primary (home_of done.state.control txn)) (Vote done.state.v txn)
told_news primary done number news.Decision = all_performed primary (with_control done (after_safe done.state.control number)) (safe_acts done.state.control number)
told_news primary done number news.Nothing = done

told_by_news : (primary : ℕ → ℕ) (done : Stepped) (number : ℕ) (content : LogRec) → told primary done number content ≡ told_news primary done number (news_of content)
unfolding told
told_by_news primary done number (Prepared txn) = refl
told_by_news primary done number (records.Decide txn) = refl
told_by_news primary done number content = refl

pub told_at_by_news : (primary : ℕ → ℕ) (done : Stepped) (number : ℕ) (found : Option LogRec) → told_at primary done number found ≡ told_news primary done number (news_in found)
told_at_by_news primary done number None = refl
told_at_by_news primary done number (Some content) = told_by_news primary done number content

-- ---- what is shipped

pub shipped_alike : (vnode : Vnode) (steps : Steps) (done : Stepped) (next : ℕ) (mode : Mode) → HasStepped vnode steps done → mode ≡ vnode.modes.mode →
    record (step_of steps) { sends = log_messages mode vnode.v (entries_from next (entries vnode.part.log)) ++ (step_of steps).sends } ≡
    (shipped next done).step
shipped_alike vnode steps done next mode has is =
    ap (λ (s : Step). record s { sends = log_messages mode vnode.v (entries_from next (entries vnode.part.log)) ++ s.sends }) has.step
    ∙ ap (λ (m : Mode). record done.step { sends = log_messages m vnode.v (entries_from next (entries vnode.part.log)) ++ done.step.sends })
    (is ∙ ap (λ (modes : ModesState). modes.mode) has.state.modes)
    ∙ ap (λ v. record done.step { sends = log_messages done.state.modes.mode v (entries_from next (entries vnode.part.log)) ++ done.step.sends }) has.state.v
    ∙ ap (λ (log : List LogEntry). record done.step
    { sends = log_messages done.state.modes.mode done.state.v (entries_from next log) ++ done.step.sends }) has.state.part.log
