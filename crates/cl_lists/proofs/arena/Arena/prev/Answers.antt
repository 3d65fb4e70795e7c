use Rattle.std.proofs.Common.{◌<◌, length, sym, ap, subst, ◌∙◌}
use Rattle.cl_lists.specs.Entries.{links_on}
use Rattle.cl_lists.specs.Links.{link_at}
use Rattle.cl_lists.proofs.ArenaFacts.{inside-in_use, prev-in_use}
use Rattle.cl_lists.proofs.ArenaChanges.{if_some}
use Rattle.cl_lists.proofs.ArenaLaws.{is_placed, in_use-before}
use Rattle.cl_lists.proofs.arena.Arena.prev.Goals as goal

pub link-requires : goal.link-requires
link-requires g c = subst (λ slots. c.args.slot < length slots) (sym c.deref.ensures.value) (inside-in_use c.args.self.now c.args.slot c.requires)

pub returns-clause-value : goal.returns-clause-value
returns-clause-value g c = λ list on.
    ap (λ link. link.prev) (c.link.ensures ∙ ap (λ slots. link_at (links_on c.args.side slots) c.args.slot) c.deref.ensures.value)
    ∙ prev-in_use c.args.self.now c.args.side c.args.slot list on

pub returns-clause-in_use : goal.returns-clause-in_use
returns-clause-in_use g c =
    let on = (is_placed c.args.self.now c.args.side).on_some c.args.slot c.requires in
    if_some _ (λ other is. in_use-before c.args.self.now c.args.side on.0 c.args.slot other (sym (returns-clause-value g c on.0 on.2) ∙ is))
