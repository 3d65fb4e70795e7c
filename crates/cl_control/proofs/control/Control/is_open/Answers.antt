use Rattle.std.proofs.Common.{◌≡◌, Option, Some, None, is_some, option_map, refl, ap, ◌∙◌}
use Rattle.std.specs.Borrow.{Bor}
use Rattle.std.specs.Option.{option_copied}
use Rattle.cl_control.specs.State.{is_open_here}
use Rattle.cl_control.specs.Table.{named}
use Rattle.cl_control.proofs.Entries.{is_some-entry_named}
use Rattle.cl_control.proofs.control.Control.is_open.Goals as goal

is_some-copied : {T U : Type 0} (f : T → U) (found : Option (Bor T)) → is_some found ≡ is_some (option_map f (option_copied found))
is_some-copied f None = refl
is_some-copied f (Some x) = refl

pub returns : goal.returns
returns c =
    c.is_some.ensures ∙ is_some-copied (named c.args.txn) c.get.result ∙ ap is_some c.get.ensures
    ∙ is_some-entry_named c.args.txn c.self.inside.transactions ∙ ap (λ state. is_open_here state c.args.txn) c.self.view_is
