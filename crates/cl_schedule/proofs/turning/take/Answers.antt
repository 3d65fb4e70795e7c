use Rattle.cl_schedule.proofs.turning.take.Goals as goal

pub returns-in-Line : goal.returns-in-Line
returns-in-Line g c = λ shape course may. c.take_line.ensures shape (g.F.Fates.fates c.args.fates.now) course (rw c.in-Line.is at may)

pub returns-in-Time : goal.returns-in-Time
returns-in-Time g c = λ shape course may. c.take_time.ensures shape c.args.setting.now (g.F.Fates.fates c.args.fates.now) _ course (rw c.in-Time.is at may)
