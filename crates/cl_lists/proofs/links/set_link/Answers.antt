use Rattle.cl_lists.proofs.EntryWrites.{links_on-set_link, DifferOn-set_link}
use Rattle.cl_lists.proofs.links.set_link.Goals as goal

pub returns-clause-links : goal.returns-clause-links
returns-clause-links g c = links_on-set_link c.args.side c.args.slots.now c.slot.inside.index c.args.slot c.index-slots-slot.result c.set_link.new.self c.args.link.now c.slot.view_is c.set_link.ensures

pub returns-clause-rest : goal.returns-clause-rest
returns-clause-rest g c = DifferOn-set_link c.args.side c.args.slots.now c.slot.inside.index c.args.slot c.index-slots-slot.result c.set_link.new.self c.args.link.now c.slot.view_is c.set_link.ensures
