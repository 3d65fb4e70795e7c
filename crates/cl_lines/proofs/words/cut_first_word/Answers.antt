use Rattle.std.proofs.Common.{◌≡◌, ◌+◌, ◌-◌, length, take, drop, sym, arith}
use Rattle.std.proofs.lemmas.Grind.{common_steps}
use Rattle.cl_lines.proofs.Cuts.{words_at, words_without_blank}
use Rattle.cl_lines.proofs.words.cut_first_word.Goals as goal

pub returns-in-Some : goal.returns-in-Some
returns-in-Some c =
    let line = c.args.line.now in
    let start = c.in-Some.blank + 1 in
    let rest : take (length line - start) (drop start line) ≡ drop start line = grind (arith, common_steps) in
    rw rest (words_at line c.in-Some.blank (sym c.in-Some.ensures))

pub returns-in-None : goal.returns-in-None
returns-in-None c = words_without_blank c.args.line.now (sym c.in-None.ensures)
