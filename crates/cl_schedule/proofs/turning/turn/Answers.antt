use Rattle.std.proofs.Common.{arith, ap, sym, ◌∙◌}
use Rattle.std.specs.Option.{option_map}
use Rattle.cl_schedule.specs.Making.{candidate_of, texts_of}
use Rattle.cl_schedule.proofs.Turned.{no_memory}
use Rattle.cl_schedule.proofs.turning.turn.Goals as goal

pub taken-requires-clause-turns : goal.taken-requires-clause-turns
taken-requires-clause-turns g c =
    let same = c.requires.course.2.turns in
    let within = c.requires.course.3.within in omega arith

pub returns-in_default : goal.returns-in_default
returns-in_default g c = λ shape course at may. no_memory shape c.args.setting.now c.args.world.now c.args.progress.now (texts_of c.args.lines.now) course (g.F.Fates.fates c.args.fates.now) at

pub take-requires-clause-course : goal.take-requires-clause-course
take-requires-clause-course g c =
    let r = c.requires.course in
    (r.0, r.1, record { at_course = r.2; may = r.3; takes = ap (λ t. option_map candidate_of t) (sym c.in-Some.is) ∙ c.in-Ok.ensures r.0 r.1 r.2 })

pub take_nothing-requires-clause-course : goal.take_nothing-requires-clause-course
take_nothing-requires-clause-course g c =
    let r = c.requires.course in
    (r.0, c.args.setting.now, texts_of c.args.lines.now, r.1, record { at_course = r.2; may = r.3; takes = ap (λ t. option_map candidate_of t) (sym c.in-None.is) ∙ c.in-Ok.ensures r.0 r.1 r.2 })

pub returns-in-Some : goal.returns-in-Some
returns-in-Some g c = λ shape course at may.
    c.take.ensures shape course (record { at_course = at; may = may; takes = ap (λ t. option_map candidate_of t) (sym c.in-Some.is) ∙ c.in-Ok.ensures shape course at })

pub returns-in-None : goal.returns-in-None
returns-in-None g c = λ shape course at may.
    c.take_nothing.ensures shape c.args.setting.now (g.F.Fates.fates c.args.fates.now) (texts_of c.args.lines.now) course
    (record { at_course = at; may = may; takes = ap (λ t. option_map candidate_of t) (sym c.in-None.is) ∙ c.in-Ok.ensures shape course at })
