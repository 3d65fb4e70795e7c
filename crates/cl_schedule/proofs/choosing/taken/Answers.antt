use Rattle.std.proofs.Common.{◌++◌, ◌<◌, slice_get, ap, ◌∙◌, arith}
use Rattle.cl_schedule.specs.Making.{line_list, packets_in, texts_of}
use Rattle.cl_schedule.proofs.Chosen.{taken_event, taken_time}
use Rattle.cl_schedule.proofs.Turned.{sound_of}
use Rattle.cl_schedule.proofs.choosing.taken.Goals as goal

pub returns-then-count-eq0 : goal.returns-then-count-eq0
returns-then-count-eq0 c = λ shape course at.
    let sound = sound_of shape c.args.world.now c.args.progress.now (texts_of c.args.lines.now) course at in
    c.as_taken.ensures ∙ c.in_ok-time_taken.ensures shape course.run sound
    ∙ taken_time shape c.args.setting.now c.args.world.now c.args.progress.now (texts_of c.args.lines.now) course c.next_line-line.result c.count_of-count.result at (c.next_line-line.ensures shape course.run sound) c.count_of-count.ensures
    c.if-count-eq0.true

pub returns : goal.returns
returns c = λ shape course at.
    let sound = sound_of shape c.args.world.now c.args.progress.now (texts_of c.args.lines.now) course at in
    let some : 0 < c.count_of-count.result = let no = c.if-count-eq0.false in omega arith in
    c.packet_or_line.ensures ∙ ap (λ n. slice_get (packets_in c.args.world.now ++ line_list c.next_line-line.result) n) c.place_in-place.ensures.place
    ∙ taken_event shape c.args.setting.now c.args.world.now c.args.progress.now (texts_of c.args.lines.now) course c.next_line-line.result c.count_of-count.result at (c.next_line-line.ensures shape course.run sound) c.count_of-count.ensures
    some
