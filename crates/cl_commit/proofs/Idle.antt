-- A command comes for an open transaction that waits for it.
use Rattle.std.proofs.Common.{◌≡◌, ℕ, ◌<◌, Bool, true, false, List, [], Option, refl, sym, ap, subst}
use Rattle.std.specs.Option.{option_map_or}
use Rattle.cl_types.specs.declared.operations.Command.{Command as ClientCommand}
use Rattle.cl_types.specs.declared.operations.TxnId.{TxnId}
use Rattle.cl_control.specs.State.{Entry, participants_of, is_among}
use Rattle.cl_control.specs.Calls.{is_preparing}
use Rattle.cl_node.specs.Addressing.{home_in}
use Rattle.cl_runs.specs.World.{Shape}
use Rattle.cl_steps.specs.declared.actors.TheConstants.{FRONT}
use Rattle.cl_system.specs.Replicas.{ReplicaWorld}
use Rattle.cl_wire.specs.Message.{Content, Command}
use Rattle.cl_commit.specs.Standing.{part_view, StandsSo, IsStill}
use Rattle.cl_commit.specs.Life.{MayParticipate, MayStandOpen}
use Rattle.cl_commit.proofs.Commanded.{IsCommand, HasIdle}
use Rattle.cl_commit.proofs.Controllers.{popped, view-popped}
use Rattle.cl_commit.proofs.Opens.{LivesOpen, lives-open}
use Rattle.cl_commit.proofs.Reports.{run_stage}

module _ (shape : Shape) (world : ReplicaWorld) (txn : TxnId) (v number : ℕ) (what : ClientCommand) (rest : List Content) (is : IsCommand shape world txn v number what rest)
    (has : HasIdle shape world txn v number what rest is) where
  pub idle-open : LivesOpen shape world txn has.entry
  idle-open = lives-open shape world txn is.lives has.entry has.found

  -- nobody has voted
  pub idle-votes : has.entry.votes ≡ []
  idle-votes = idle-open.unvoted (ap is_preparing has.idle)

  pub idle-participants : participants_of (world.replicas (home_in shape.nodes txn)).control txn ≡ has.entry.participants
  idle-participants = ap (λ (o : Option Entry). option_map_or (λ (entry : Entry). entry.participants) o []) has.found

  -- each participant runs, and nothing is on its way
  idle-still : (u : ℕ) → u < shape.nodes → IsStill (part_view shape.nodes world txn u) (run_stage (is_among u has.entry.participants))
  idle-still u below = by (is_among u has.entry.participants) (idle-open.stands u below).2
    where
      by : (b : Bool) → MayStandOpen b has.entry u (idle-open.stands u below).0 → IsStill (part_view shape.nodes world txn u) (run_stage b)
      by true may = subst (StandsSo u txn (part_view shape.nodes world txn u))
          (subst (λ phase. MayParticipate phase (is_among u has.entry.votes) u (idle-open.stands u below).0) has.idle may) (idle-open.stands u below).1
      by false may = subst (StandsSo u txn (part_view shape.nodes world txn u)) may (idle-open.stands u below).1

  -- also once the command is taken
  pub idle-left : (u : ℕ) → u < shape.nodes → IsStill (part_view shape.nodes (popped shape world txn FRONT (Command v txn number what) rest is.waits) txn u) (run_stage (is_among u has.entry.participants))
  idle-left u below =
      subst (λ view. IsStill view (run_stage (is_among u has.entry.participants))) (sym (view-popped shape world txn FRONT (Command v txn number what) rest is.waits u refl refl)) (idle-still u below)
