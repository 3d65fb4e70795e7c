use Rattle.std.proofs.Common.{List, [], ◌∷◌, ◌++◌, Bool, ◌<◌, inl, length, map, sym, ap, subst, ◌∙◌}
use Rattle.std.proofs.lemmas.Bool.{false≢true}
use Rattle.std.proofs.lemmas.List.{map-append}
use Rattle.cl_post.specs.declared.event.Event.{Event}
use Rattle.cl_runs.specs.World.{Happening, with_firm}
use Rattle.cl_types.specs.AppendOnlyList.{entries}
use Rattle.cl_types.specs.GrowingList.{items}
use Rattle.cl_world.specs.Actors.{HasActed}
use Rattle.cl_world.specs.FirmRoom.{firm_in, firm_room}
use Rattle.cl_world.specs.Happenings.{happening_of, marked_of, run_of}
use Rattle.cl_wire.specs.Message.{message_of}
use Rattle.cl_world.specs.Mail.{messages_in, to_living}
use Rattle.cl_world.specs.Taking.{IsTaken, actor_of, input_at, lines_with}
use Rattle.cl_world.specs.declared.world.World.{World}
use Rattle.cl_world.proofs.Takes.{IsNoted, KeepsOuts, at_with, gives_up, if_ok, lose_bound, may_with, not_the_front, noted_result}
use Rattle.cl_world.proofs.world.World.take_step.Goals as goal

pub lose-requires : goal.lose-requires
lose-requires c =
    let shape = c.requires.may.0 in
    let moment = c.requires.may.1 in
    let at = c.requires.may.2 in
    let may = c.requires.may.3 in
    let roomy = at_with shape c.args.self.now c.reserve.new.self moment at in
    let acted = c.in_ok-outs.ensures.step shape moment roomy (may_with shape c.args.self.now c.reserve.new.self moment c.args.event.now may) in
    let ne = not_the_front shape c.args.self.now c.act.new.self moment c.args.event.now c.in_ok-outs.outs c.len.result (firm_room c.act.new.self.firm) at may acted c.len.ensures (λ le. false≢true (c.in-Err.ensures.roomy le)) in
    subst (λ a. a < length c.act.new.self.actors.members.items) (sym c.actor_in.ensures) (lose_bound shape c.args.self.now c.act.new.self moment c.args.event.now c.in_ok-outs.outs c.requires.step may acted ne)

pub returns-in-Err : goal.returns-in-Err
returns-in-Err c = λ shape moment at may.
    let roomy = at_with shape c.args.self.now c.reserve.new.self moment at in
    let acted = c.in_ok-outs.ensures.step shape moment roomy (may_with shape c.args.self.now c.reserve.new.self moment c.args.event.now may) in
    let ne = not_the_front shape c.args.self.now c.act.new.self moment c.args.event.now c.in_ok-outs.outs c.len.result (firm_room c.act.new.self.firm) at may acted c.len.ensures (λ le. false≢true (c.in-Err.ensures.roomy le)) in
    inl (gives_up shape c.args.self.now c.act.new.self _ moment c.args.event.now c.in_ok-outs.outs c.actor_in.result c.requires.step at may acted ne c.actor_in.ensures c.lose.ensures
    (c.in-Err.ensures.same ∙ ap (λ (w : World). firm_in w.firm) c.act.ensures.same) (ap (λ (w : World). w.roster) c.act.ensures.same)
    (ap (λ (w : World). entries w.trace) c.act.ensures.same ∙ c.reserve.ensures.entries))

pub returns : goal.returns
returns c = λ shape moment at may.
    let before = c.args.self.now in
    let after = c.note.new.self in
    let event = c.args.event.now in
    let outs = c.in_ok-outs.outs in
    let same = c.act.ensures.same in
    let roomy = at_with shape before c.reserve.new.self moment at in
    let acted = c.in_ok-outs.ensures.step shape moment roomy (may_with shape before c.reserve.new.self moment event may) in
    let unspent = (c.in_ok-outs.ensures.spent shape moment roomy (may_with shape before c.reserve.new.self moment event may)).unspent in
    let now = subst (λ all. HasActed shape all moment.actors (actor_of event) (input_at moment (happening_of event)) outs) (sym c.note.ensures.actors) acted in
    let entry : List (Event × Bool) = (c.in_ok-noted.noted, outs.short) ∷ [] in
    let noted : IsNoted before after event outs = record {
      nodes = c.note.ensures.nodes ∙ ap (λ (w : World). w.nodes) same;
      spares = c.note.ensures.spares ∙ ap (λ (w : World). w.spares) same;
      firm = c.note.ensures.firm ∙ ap (λ firm. with_firm firm (items outs.firm)) (c.reserve-2.ensures.same ∙ ap (λ (w : World). firm_in w.firm) same);
      trace = ap run_of (c.note.ensures.trace ∙ ap (λ es. es ++ entry) (ap (λ (w : World). entries w.trace) same ∙ c.reserve.ensures.entries))
          ∙ map-append marked_of (entries before.trace) entry ∙ ap (λ (h : Happening). run_of (entries before.trace) ++ (h, outs.short) ∷ []) c.in_ok-noted.ensures;
      lines = c.note.ensures.lines ∙ c.lines_after.ensures ∙ ap (λ (w : World). lines_with w.lines event) same;
      quiet = c.note.ensures.quiet;
      roster = c.note.ensures.roster ∙ ap (λ (w : World). w.roster) same;
    } in
    let given = map message_of outs.packets.items in
    let living = length c.act.new.self.actors.members.items in
    let keeps = if_ok _ (KeepsOuts shape before after outs) c.note.result
    (λ e. e ∙ ap (λ (w : World). messages_in w.mail ++ map (to_living living) given) same ∙ ap (λ n. messages_in before.mail ++ map (to_living n) given) acted.after.counted) c.note.ensures.mail in
    subst (λ r. IsTaken shape before after moment event r) (sym c.as_refused.ensures)
    (noted_result shape before after moment event outs c.note.result c.requires.step at may unspent now noted keeps)
