-- A packet that is handled, a tick and a line, over plain variables.
use Rattle.std.proofs.Common.{◌≡◌, ℕ, ◌<◌, All, Bool, true, false, ◌&&◌, ◌||◌, if◌then◌else◌, List, [], map}
use Rattle.std.proofs.Common.{Option, Some, None, Result, Ok, Err, IfOk, OnOk, refl, sym, ap, subst, ◌∙◌, arith}
use Rattle.std.proofs.lemmas.List.Elements.{All-same}
use Rattle.cl_endpoint.specs.declared.received.Received.{Received}
use Rattle.cl_endpoint.specs.declared.received.Received.TheVariants.{Now}
use Rattle.cl_endpoint.specs.declared.limits.TheConstants.{ACTORS}
use Rattle.cl_endpoint.specs.Emission.{emitted, after_emit}
use Rattle.cl_endpoint.specs.Endpoint.{EndpointState, received, after_receive, owed_to, after_gives, is_spent_to, is_spent_by}
use Rattle.cl_lines.specs.declared.out.Out.{Out}
use Rattle.cl_post.specs.declared.outs.Outs.{Outs}
use Rattle.cl_post.specs.Steps.{OutsData, IsStep, IsSpentWhere, IsSpentByMark, outs_of}
use Rattle.cl_roster.specs.View.{RosterView}
use Rattle.cl_steps.specs.declared.steps.Steps.{Steps}
use Rattle.cl_steps.specs.Steps.{step_of, nothing_done, AreFewer, receivers}
use Rattle.cl_types.specs.declared.answers.Refused.{Refused}
use Rattle.cl_types.specs.declared.answers.Refused.TheVariants.{NoMemory, Spent}
use Rattle.cl_types.specs.declared.operations.TxnId.{TxnId}
use Rattle.cl_wire.specs.Message.{Message, Content}
use Rattle.cl_actor.proofs.Receivers.{All-of_map, each_of_fewer, more_is_spent}
use Rattle.cl_actor.specs.Acting.{ActingState, noted_in, unmoved, is_now, delivery, is_handling_spent, endpoint_after, outs_after, finished, handled, SendsToActors}
use Rattle.cl_actor.specs.Core.{Noted, noted_of, CoreStep, IsCoreStep}

-- who sends nothing gives nothing
pub gives_nothing : (endpoint : EndpointState) → after_gives endpoint [] ≡ endpoint
unfolding after_gives
gives_nothing endpoint = refl

-- what is emitted where the core has no step
pub made_alone : (endpoint : EndpointState) (owed : Option ℕ) (packets : List Message) (firm : List TxnId) →
    packets ≡ emitted endpoint owed → firm ≡ [] →
    record { packets = packets; firm = firm; entry = None; short = false } ≡ outs_after endpoint nothing_done owed
made_alone endpoint owed packets firm emits none =
    rw gives_nothing (ap (λ one. record { packets = one; firm = firm; entry = None; short = false }) emits
    ∙ ap (λ one. record { packets = emitted endpoint owed; firm = one; entry = None; short = false }) none)

-- the endpoint after it
pub endpoint_after_nothing : (endpoint : EndpointState) (owed : Option ℕ) → endpoint_after endpoint nothing_done owed ≡ after_emit endpoint owed
endpoint_after_nothing endpoint owed = ap (λ one. after_emit one owed) (gives_nothing endpoint)

-- who receives notes nothing
pub receiving_notes_nothing : (endpoint : EndpointState) (from seq ack : ℕ) → noted_in (after_receive endpoint from seq ack) ≡ noted_in endpoint
unfolding after_receive
receiving_notes_nothing endpoint from seq ack = refl

-- the core is told what the endpoint has noted
pub noted_alike : (view : RosterView) (endpoint : EndpointState) →
    view.nodes ≡ endpoint.nodes → view.spares ≡ endpoint.spares → view.entries ≡ endpoint.noted → noted_of view ≡ noted_in endpoint
noted_alike view endpoint nodes spares entries = cc

-- what is given, emitted and settled after a core's step is the step of the actor
pub finished_is_step : {S : Type 0} (Is WillBe : S → Type 0) (stepped : Bool → CoreStep S) (given after : EndpointState) (owed : Option ℕ) (steps : Steps) (result : Result Outs Refused) →
    WillBe (stepped steps.short).state → step_of steps ≡ (stepped steps.short).step →
    IfOk result (λ outs. outs_of outs ≡ outs_after given (step_of steps) owed) →
    OnOk result (after ≡ endpoint_after given (step_of steps) owed) →
    OnOk result ((state : S) → WillBe state → Is state) →
    IsStep (λ state. Is state.core × (after ≡ state.endpoint)) (λ mark. (finished (stepped mark) given owed).0) (λ mark. (finished (stepped mark) given owed).1) result
finished_is_step Is WillBe stepped given after owed steps (Err refused) will step outs endpoint settled = tt
finished_is_step Is WillBe stepped given after owed steps (Ok made) will step outs endpoint settled =
    let short : made.short ≡ steps.short = ap (λ one. one.short) outs in
    subst (λ mark. (Is (stepped mark).state × (after ≡ endpoint_after given (stepped mark).step owed)) × (outs_of made ≡ outs_after given (stepped mark).step owed))
    (sym short)
    ((settled _ will, endpoint ∙ ap (λ one. endpoint_after given one owed) step), outs ∙ ap (λ one. outs_after given one owed) step)

-- a refusal is by the mark where a step that is refused as spent is spent with no mark
pub refused_by_mark : (spent : Bool → Bool) (refused : Refused) → (refused ≡ Spent → spent false ≡ true) → IsSpentByMark spent (Err refused)
refused_by_mark spent refused is = record { unspent = tt; cause = λ e. is cc }

-- who is refused as spent is spent
pub spent_refused : (A : Type 0) (spent : Bool) (refused : Refused) → IsSpentWhere {A = A} spent (Err refused) → refused ≡ Spent → spent ≡ true
spent_refused A spent NoMemory is e = let other : ◌≡◌ {A = Refused} NoMemory Spent = e in absurd cc
spent_refused A spent Spent is e = is

-- where neither the core nor a link is spent, the step is not
pub parts_unspent : (seen : Received) (core links : Bool) → core ≡ false → links ≡ false → (is_now seen && (core || links)) ≡ false
parts_unspent seen core links one other = ap (λ b. is_now seen && (b || links)) one ∙ ap (λ b. is_now seen && b) other ∙ nothing (is_now seen)
  where
    nothing : (b : Bool) → (b && false) ≡ false
    nothing true = refl
    nothing false = refl

-- where the message is accepted now and a link is spent, the step is
pub link_spends : (seen : Received) (core links : Bool) → seen ≡ Now → core ≡ false → links ≡ true → (is_now seen && (core || links)) ≡ true
link_spends seen core links now unspent spent =
    ap (λ one. is_now one && (core || links)) now ∙ ap (λ one. one || links) unspent ∙ spent

-- steps that are alike for each mark are the same step
pub step_alike : {S : Type 0} (IsNow : S → Type 0) (one other : Bool → S × OutsData) (result : Result Outs Refused) →
    ((mark : Bool) → one mark ≡ other mark) →
    IsStep IsNow (λ mark. (one mark).0) (λ mark. (one mark).1) result → IsStep IsNow (λ mark. (other mark).0) (λ mark. (other mark).1) result
step_alike IsNow one other (Err refused) alike is = tt
step_alike IsNow one other (Ok made) alike is = subst (λ stepped. IsNow stepped.0 × (outs_of made ≡ stepped.1)) (alike made.short) is

-- what the code meets where a message is accepted now: what was received, the endpoint after it, to whom is owed, and what the core is told
pub record Accepts (before heard : EndpointState) (owed : Option ℕ) (noted : Noted) (m : Message) : Type 0 where
  pub now : received before m.from m.seq ≡ Now
  pub hears : heard ≡ after_receive before m.from m.seq m.ack
  pub owes : owed ≡ Some m.from
  pub tells : noted ≡ noted_in before

-- it meets that by what its calls ensure
pub accepts : (endpoint before heard : EndpointState) (seen : Received) (owed : Option ℕ) (view : RosterView) (m : Message) →
    endpoint ≡ before → seen ≡ received endpoint m.from m.seq → heard ≡ after_receive endpoint m.from m.seq m.ack → seen ≡ Now → owed ≡ owed_to seen m.from →
    view.nodes ≡ heard.nodes → view.spares ≡ heard.spares → view.entries ≡ heard.noted → Accepts before heard owed (noted_of view) m
accepts endpoint before heard seen owed view m same sees hears now owes nodes spares entries =
    let heard_is : heard ≡ after_receive before m.from m.seq m.ack = hears ∙ ap (λ one. after_receive one m.from m.seq m.ack) same in
    record {
      now = ap (λ one. received one m.from m.seq) (sym same) ∙ sym sees ∙ now;
      hears = heard_is;
      owes = owes ∙ ap (λ one. owed_to one m.from) now;
      tells = noted_alike view heard nodes spares entries ∙ ap (λ one. noted_in one) heard_is ∙ receiving_notes_nothing before m.from m.seq m.ack;
    }

module _ {S : Type 0} (delivered : Noted → S → ℕ → Content → Bool → CoreStep S) where
  -- what is given, emitted and settled after the core's step is the step of the actor
  pub accepted_is_step : (Is WillBe : S → Type 0) (before : ActingState S) (m : Message) (heard after : EndpointState) (owed : Option ℕ) (noted : Noted) (steps : Steps) (result : Result Outs Refused) →
      Accepts before.endpoint heard owed noted m →
      IsCoreStep WillBe (delivered noted before.core m.from m.content) (Ok steps) →
      IfOk result (λ outs. outs_of outs ≡ outs_after heard (step_of steps) owed) →
      OnOk result (after ≡ endpoint_after heard (step_of steps) owed) →
      OnOk result ((state : S) → WillBe state → Is state) →
      IsStep (λ state. Is state.core × (after ≡ state.endpoint)) (λ mark. (handled delivered before m mark).0) (λ mark. (handled delivered before m mark).1) result
  accepted_is_step Is WillBe before m heard after owed noted steps result meets stepped outs ends settled =
      let ours : Bool → CoreStep S = λ mark. delivered noted before.core m.from m.content mark in
      step_alike (λ state. Is state.core × (after ≡ state.endpoint)) (λ mark. finished (ours mark) heard owed) (handled delivered before m) result (λ mark.
      ap (λ one. finished (delivered one before.core m.from m.content mark) heard owed) meets.tells
      ∙ ap (λ one. finished (delivered (noted_in before.endpoint) before.core m.from m.content mark) one owed) meets.hears
      ∙ ap (λ one. finished (delivered (noted_in before.endpoint) before.core m.from m.content mark) (after_receive before.endpoint m.from m.seq m.ack) one) meets.owes
      ∙ ap (λ one. finished (if is_now one then delivery delivered before m mark else unmoved before.core)
      (after_receive before.endpoint m.from m.seq m.ack) (owed_to one m.from)) (sym meets.now))
      (finished_is_step Is WillBe ours heard after owed steps result stepped.0 stepped.1 outs ends settled)

  module _ (before : ActingState S) (m : Message) (noted : Noted) (steps : Steps)
      (tells : noted ≡ noted_in before.endpoint)
      (step : step_of steps ≡ (delivered noted before.core m.from m.content steps.short).step)
      (fewer : AreFewer (receivers (delivered (noted_in before.endpoint) before.core m.from m.content true).step)
      (receivers (delivered (noted_in before.endpoint) before.core m.from m.content false).step)) where
    -- to whom the step with this mark sends
    to_with : Bool → List ℕ
    to_with mark = receivers (delivered (noted_in before.endpoint) before.core m.from m.content mark).step

    -- it is made with its mark
    same_receivers : map (λ message. message.to) (step_of steps).sends ≡ to_with steps.short
    unfolding to_with
    same_receivers =
        ap (λ one. map (λ message. message.to) one.sends) step
        ∙ ap (λ one. receivers (delivered one before.core m.from m.content steps.short).step) tells

    -- with no mark a step sends to no fewer
    fewer_with : (mark : Bool) → AreFewer (to_with mark) (to_with false)
    unfolding to_with
    fewer_with true = fewer
    fewer_with false = λ to. omega arith

    -- so it sends to no more than with no mark
    fewer_receivers : AreFewer (map (λ message. message.to) (step_of steps).sends) (to_with false)
    fewer_receivers = subst (λ one. AreFewer one (to_with false)) (sym same_receivers) (fewer_with steps.short)

    -- and to actors, whatever its mark
    pub sends_to_actors : SendsToActors (delivered (noted_in before.endpoint) before.core m.from m.content false) →
        All (λ message. message.to < ACTORS) (step_of steps).sends
    unfolding to_with
    sends_to_actors fits = All-of_map (λ to. to < ACTORS) (λ message. message.to) _ (each_of_fewer (λ to. to < ACTORS) _ _ fewer_receivers fits)

    core_unspent : (is_delivery_spent : Noted → S → ℕ → Content → Bool) → is_delivery_spent noted before.core m.from m.content ≡ false →
        is_delivery_spent (noted_in before.endpoint) before.core m.from m.content ≡ false
    core_unspent is_delivery_spent unspent = ap (λ one. is_delivery_spent one before.core m.from m.content) (sym tells) ∙ unspent

    -- the step of the actor is spent by its mark, where a link is at its last number
    pub accepted_is_spent : (heard : EndpointState) (owed : Option ℕ) (is_delivery_spent : Noted → S → ℕ → Content → Bool) (result : Result Outs Refused) →
        Accepts before.endpoint heard owed noted m →
        is_delivery_spent noted before.core m.from m.content ≡ false →
        IfOk result (λ outs. outs_of outs ≡ outs_after heard (step_of steps) owed) →
        IsSpentWhere (is_spent_by heard (step_of steps).sends) result →
        IsSpentByMark (is_handling_spent delivered is_delivery_spent before m) result
    unfolding to_with
    accepted_is_spent heard owed is_delivery_spent (Ok made) meets unspent outs spent =
        let short : made.short ≡ steps.short = ap (λ one. one.short) outs in
        record {
          unspent = parts_unspent (received before.endpoint m.from m.seq) _ _ (core_unspent is_delivery_spent unspent)
              (ap (λ mark. is_spent_to (after_receive before.endpoint m.from m.seq m.ack) (to_with mark)) short
              ∙ ap (λ to. is_spent_to (after_receive before.endpoint m.from m.seq m.ack) to) (sym same_receivers)
              ∙ ap (λ one. is_spent_by one (step_of steps).sends) (sym meets.hears) ∙ spent);
          cause = λ e. absurd cc;
        }
    accepted_is_spent heard owed is_delivery_spent (Err refused) meets unspent outs spent =
        refused_by_mark _ refused (λ e. link_spends (received before.endpoint m.from m.seq) _ _ meets.now (core_unspent is_delivery_spent unspent)
        (more_is_spent (after_receive before.endpoint m.from m.seq m.ack) (map (λ message. message.to) (step_of steps).sends) (to_with false) fewer_receivers
        (ap (λ one. is_spent_by one (step_of steps).sends) (sym meets.hears) ∙ spent_refused Outs (is_spent_by heard (step_of steps).sends) refused spent e)))

  -- a core that refuses as spent makes the step of the actor spent
  pub accepted_refusal_is_spent : (before : ActingState S) (m : Message) (heard : EndpointState) (owed : Option ℕ) (noted : Noted)
      (is_delivery_spent : Noted → S → ℕ → Content → Bool) (refused : Refused) →
      Accepts before.endpoint heard owed noted m →
      IsSpentWhere {A = Steps} (is_delivery_spent noted before.core m.from m.content) (Err refused) →
      IsSpentByMark (is_handling_spent delivered is_delivery_spent before m) (Err refused)
  accepted_refusal_is_spent before m heard owed noted is_delivery_spent refused meets spent =
      let links : Bool = is_spent_to (after_receive before.endpoint m.from m.seq m.ack) (receivers (delivery delivered before m false).step) in
      refused_by_mark _ refused (λ e.
      ap (λ one. is_now one && (is_delivery_spent (noted_in before.endpoint) before.core m.from m.content || links)) meets.now
      ∙ ap (λ one. is_delivery_spent one before.core m.from m.content || links) (sym meets.tells)
      ∙ ap (λ one. one || links) (spent_refused Steps (is_delivery_spent noted before.core m.from m.content) refused spent e))

-- what the core sends on a line goes to actors
pub line_sends_to_actors : {S : Type 0} (fed : Noted → S → ℕ → List ℕ → List Out → CoreStep S) (before : ActingState S) (line : ℕ) (text : List ℕ) (said : List Out) (noted : Noted) (steps : Steps) →
    noted ≡ noted_in before.endpoint → step_of steps ≡ (fed noted before.core line text said).step →
    SendsToActors (fed (noted_in before.endpoint) before.core line text said) → All (λ message. message.to < ACTORS) (step_of steps).sends
line_sends_to_actors fed before line text said noted steps tells step fits =
    All-of_map (λ to. to < ACTORS) (λ message. message.to) _ (All-same (λ to. to < ACTORS) _ _
    (ap (λ one. map (λ message. message.to) one.sends) step ∙ ap (λ one. receivers (fed one before.core line text said).step) tells) fits)
