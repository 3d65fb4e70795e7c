-- At the start a primary with a standby is one without; and what fits it without fits it with the standby.
use Rattle.std.proofs.Common.{◌≡◌, ℕ, false, Some, refl, sym, ◌∙◌, subst, arith}
use Rattle.std.proofs.lemmas.List.Elements.{All-nil}
use Rattle.cl_types.specs.declared.operations.Command.{Command as ClientCommand}
use Rattle.cl_types.specs.declared.operations.Command.TheVariants.{Begin, Work, Commit, Abort}
use Rattle.cl_types.specs.declared.operations.TxnId.{TxnId}
use Rattle.cl_types.specs.Placement.{IsNodeCount}
use Rattle.cl_control.specs.Calls.{MayCommand, is_told}
use Rattle.cl_control.specs.State.{ControlState}
use Rattle.cl_control.proofs.CallSoundness.{new_is_sound}
use Rattle.cl_wire.specs.Message.{Content, Command}
use Rattle.cl_vnode.specs.Inputs.{MayCome, Fits}
use Rattle.cl_vnode.specs.Replica.{ReplicaState, new_replica}
use Rattle.cl_paired.specs.Laws.{FirstIsPaired, IsUnawaited, FitsBoth}
use Rattle.cl_paired.specs.Paired.{IsPaired}
use Rattle.cl_paired.proofs.Calming.{calm, open-calm, phase-calm}
use Rattle.cl_paired.proofs.Seeing.{seen, at_once_seen, untold_seen}

-- a new primary with a standby
new_is_paired : (v nodes standby : ℕ) → IsNodeCount nodes → IsPaired (new_replica v nodes (Some standby))
new_is_paired v nodes standby counted = record {
  standby = standby;
  mode = refl;
  own = refl;
  sound = new_is_sound nodes counted;
  numbered = tt;
  next = omega arith;
  acked = omega arith;
  waiting = refl;
  decided = All-nil _;
}

-- at the start it is one without
pub first_is_paired : FirstIsPaired
first_is_paired v nodes standby counted =
    let paired : IsPaired (new_replica v nodes (Some standby)) = new_is_paired v nodes standby counted in
    record {
      paired = paired;
      alone = λ primary. at_once_seen primary (new_replica v nodes (Some standby)) paired;
      told = λ primary. untold_seen primary (new_replica v nodes (Some standby)) paired;
    }

-- a command comes to the controller as it is
command_comes : (control : ControlState) (txn : TxnId) (what : ClientCommand) → is_told txn control.waiting ≡ false → MayCommand (calm control) txn what →
    MayCommand control txn what
command_comes control txn Begin apart may = sym (open-calm control txn apart) ∙ may
command_comes control txn (Work table key op) apart may = sym (phase-calm control txn apart) ∙ may
command_comes control txn Commit apart may = sym (phase-calm control txn apart) ∙ may
command_comes control txn Abort apart may = sym (phase-calm control txn apart) ∙ may

-- any message does
comes_both : (state : ReplicaState) (content : Content) → IsUnawaited state content → MayCome (seen state) content → MayCome state content
comes_both state (Command v txn number what) unawaited comes = command_comes state.control txn what unawaited comes
comes_both state content unawaited comes = comes

-- what fits without a standby fits with one that is a node
pub fits_both : FitsBoth
fits_both primary nodes state content is unawaited below fits =
    let alone : Fits nodes (seen state) content = subst (λ (s : ReplicaState). Fits nodes s content) (at_once_seen primary state is) fits in
    record { same_nodes = alone.same_nodes; comes = comes_both state content unawaited alone.comes; standby = below }
