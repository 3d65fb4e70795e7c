-- The replicas of a node, by virtual node.
use Rattle.std.proofs.Common.{◌≡◌, ℕ, zero, suc, ◌<◌, ◌≤◌, nat_lt, Bool, true, false, if◌then◌else◌, List, [], ◌∷◌, length, Option, Some, None, Result, Ok, Err, IfOk, replicate, slice_index_or, slice_set, refl, sym, ◌∙◌, ap, subst, arith, length-set}
use Rattle.std.proofs.lemmas.Bool.Decides.{nat_tests}
use Rattle.std.proofs.lemmas.List.{get_or_default, get_or-set_same, set-get_or}
use Rattle.std.proofs.lemmas.Slice.Zip.{AllZip-long}
use Rattle.std.specs.List.{AllZip, list_any}
use Rattle.std.specs.Option.{option_map_or}
use Rattle.cl_actor.specs.Core.{Noted, CoreStep, IsCoreStep}
use Rattle.cl_node.specs.Addressing.{addressed}
use Rattle.cl_node.specs.Members.{backed_up}
use Rattle.cl_node.specs.Node.{NodeState, no_replicas, two_replicas, first_member, first_node, replica_at, replica_step, slot_step, is_slot_spent, delivered_for, delivered_node, is_delivery_spent, replica_for, unmoved, is_replica_spent, DeliveryFits, ReplicaFits}
use Rattle.cl_node.specs.Slot.{IsReplicaAt, is_under_way}
use Rattle.cl_node.specs.Marks.{slots_at}
use Rattle.cl_post.specs.Steps.{IsSpentWhere}
use Rattle.cl_roster.specs.declared.limits.TheConstants.{VIRTUAL_NODES_MAX}
use Rattle.cl_steps.specs.declared.steps.Steps.{Steps}
use Rattle.cl_steps.specs.Steps.{step_of}
use Rattle.cl_types.specs.declared.answers.Refused.{Refused}
use Rattle.cl_types.specs.declared.answers.Refused.TheVariants.{NoMemory, Spent}
use Rattle.cl_repair.specs.Modes.{ModesState}
use Rattle.cl_vnode.specs.declared.vnode.Vnode.{Vnode}
use Rattle.cl_vnode.specs.Replica.{ReplicaState, IsReplicaStateOf, is_busy, is_lasting}
use Rattle.cl_vnode.specs.Step.{primary_in}
use Rattle.cl_vnode.proofs.States.{every_replica_has_state}
use Rattle.cl_wire.specs.Message.{Content}

-- ---- one replica

-- the step of a replica that is there
pub handed : (noted : Noted) (vnode new : Vnode) (before : Option ReplicaState) (from : ℕ) (content : Content) (result : Result Steps Refused) →
    ((replica : ReplicaState) → IsReplicaStateOf vnode replica → IfOk result (λ steps.
    let after = replica_step (primary_in noted.nodes noted.entries) replica from content steps.short in
    IsReplicaStateOf new after.state × (step_of steps ≡ after.step))) →
    IsReplicaAt (Some vnode) before →
    IfOk result (λ steps. let after = slot_step noted before from content steps.short in IsReplicaAt (Some new) after.0 × (step_of steps ≡ after.1))
handed noted vnode new None from content result steps is = absurd is
handed noted vnode new (Some replica) from content result steps is = steps replica is

-- where it is spent
pub handed_spent : (vnode : Vnode) (before : Option ReplicaState) (content : Content) (result : Result Steps Refused) →
    ((replica : ReplicaState) → IsReplicaStateOf vnode replica → IsSpentWhere (is_replica_spent replica content) result) →
    IsReplicaAt (Some vnode) before → IsSpentWhere (is_slot_spent before content) result
handed_spent vnode None content result spent is = absurd is
handed_spent vnode (Some replica) content (Ok steps) spent is = spent replica is
handed_spent vnode (Some replica) content (Err Spent) spent is = spent replica is
handed_spent vnode (Some replica) content (Err NoMemory) spent is = tt

-- ---- the replicas

-- one of them has changed on both sides
pub zip_set : (vnodes : List (Option Vnode)) (replicas : List (Option ReplicaState)) (v : ℕ) (vnode : Option Vnode) (replica : Option ReplicaState) →
    AllZip IsReplicaAt vnodes replicas → IsReplicaAt vnode replica → AllZip IsReplicaAt (slice_set vnodes v vnode) (slice_set replicas v replica)
zip_set [] [] v vnode replica are is = tt
zip_set [] (y ∷ ys) v vnode replica are is = absurd are
zip_set (x ∷ xs) [] v vnode replica are is = absurd are
zip_set (x ∷ xs) (y ∷ ys) zero vnode replica are is = (is, are.1)
zip_set (x ∷ xs) (y ∷ ys) (suc v) vnode replica are is = (are.0, zip_set xs ys v vnode replica are.1 is)

-- beyond them there is none
none_beyond : (vnodes : List (Option Vnode)) (replicas : List (Option ReplicaState)) (v : ℕ) → AllZip IsReplicaAt vnodes replicas → length vnodes ≤ v →
    (slice_index_or replicas v None ≡ None) × (slice_set replicas v None ≡ replicas)
none_beyond [] [] v are beyond = (refl, refl)
none_beyond [] (y ∷ ys) v are beyond = absurd are
none_beyond (x ∷ xs) [] v are beyond = absurd are
none_beyond (x ∷ xs) (y ∷ ys) zero are beyond = absurd (omega arith)
none_beyond (x ∷ xs) (y ∷ ys) (suc v) are beyond =
    let rest = none_beyond xs ys v are.1 (omega arith) in (rest.0, ap (λ (list : List (Option ReplicaState)). y ∷ list) rest.1)

pub replica_beyond : (vnodes : List (Option Vnode)) (state : NodeState) (v : ℕ) → AllZip IsReplicaAt vnodes state.replicas → length vnodes ≤ v → replica_at state v ≡ None
replica_beyond vnodes state v are beyond = (none_beyond vnodes state.replicas v are beyond).0

-- the replica at a place that is read with another default
pub at_index : (vnodes : List (Option Vnode)) (state : NodeState) (v : ℕ) (default : Option Vnode) → AllZip IsReplicaAt vnodes state.replicas → v < length vnodes →
    IsReplicaAt (slice_index_or vnodes v default) (replica_at state v)
at_index vnodes state v default are within = subst (λ (slot : Option Vnode). IsReplicaAt slot (replica_at state v)) (get_or_default vnodes v None default within) (slots_at vnodes state.replicas are v)

-- something is under way at a replica on both sides
under_way : (vnode : Option Vnode) (replica : Option ReplicaState) → IsReplicaAt vnode replica → is_under_way vnode ≡ option_map_or is_busy replica false
under_way None None is = refl
under_way None (Some replica) is = absurd is
under_way (Some vnode) None is = absurd is
under_way (Some vnode) (Some replica) is = ap (λ (modes : ModesState). is_lasting modes.mode) is.modes

-- at one of them
pub any_under_way : (vnodes : List (Option Vnode)) (replicas : List (Option ReplicaState)) → AllZip IsReplicaAt vnodes replicas →
    list_any is_under_way vnodes ≡ list_any (λ (replica : Option ReplicaState). option_map_or is_busy replica false) replicas
any_under_way [] [] are = refl
any_under_way [] (y ∷ ys) are = absurd are
any_under_way (x ∷ xs) [] are = absurd are
any_under_way (x ∷ xs) (y ∷ ys) are =
    let first = under_way x y are.0 in let rest = any_under_way xs ys are.1 in rw (first, rest) refl

-- ---- a message

module _ (noted : Noted) (vnodes : List (Option Vnode)) (state : NodeState) (from v : ℕ) (content : Content)
    (are : AllZip IsReplicaAt vnodes state.replicas) (for : addressed noted.nodes content ≡ Some v) where
  -- it is handed to its replica
  pub delivered : (new : Option Vnode) (result : Result Steps Refused) →
      IfOk result (λ steps. let after = slot_step noted (replica_at state v) from content steps.short in IsReplicaAt new after.0 × (step_of steps ≡ after.1)) →
      IsCoreStep (λ (after : NodeState). AllZip IsReplicaAt (slice_set vnodes v new) after.replicas) (delivered_node noted state from content) result
  delivered new (Err refused) step = tt
  delivered new (Ok steps) step =
      subst (λ (to : Option ℕ). AllZip IsReplicaAt (slice_set vnodes v new) (delivered_for noted state from content steps.short to).state.replicas
      × (step_of steps ≡ (delivered_for noted state from content steps.short to).step)) (sym for)
      (zip_set vnodes state.replicas v new _ are step.0, step.1)

  pub delivered_spent : (result : Result Steps Refused) → IsSpentWhere (is_slot_spent (replica_at state v) content) result →
      IsSpentWhere (is_delivery_spent noted state from content) result
  delivered_spent result spent = subst (λ (to : Option ℕ). IsSpentWhere (is_slot_spent (replica_for state to) content) result) (sym for) spent

  -- it is for a virtual node that is not there
  pub delivered_nowhere : (mark : Bool) → length vnodes ≤ v → delivered_node noted state from content mark ≡ unmoved state
  delivered_nowhere mark beyond =
      let none = none_beyond vnodes state.replicas v are beyond in
      ap (delivered_for noted state from content mark) for
      ∙ ap (λ (slot : Option ReplicaState). let after = slot_step noted slot from content mark in
      (let moved : CoreStep NodeState = record { state = record state { replicas = slice_set state.replicas v after.0 }; step = after.1 } in moved)) none.0
      ∙ ap (λ (list : List (Option ReplicaState)). record (unmoved state) { state = record state { replicas = list } }) none.1

  pub nowhere_unspent : length vnodes ≤ v → is_delivery_spent noted state from content ≡ false
  nowhere_unspent beyond =
      ap (λ (to : Option ℕ). is_slot_spent (replica_for state to) content) for
      ∙ ap (λ (slot : Option ReplicaState). is_slot_spent slot content) (none_beyond vnodes state.replicas v are beyond).0

  -- its replica is there, where it fits
  pub fits_there : (slot : Option Vnode) → IsReplicaAt slot (replica_at state v) → DeliveryFits noted state from content →
      (replica : ReplicaState) × IsReplicaAt slot (Some replica) × ReplicaFits noted.nodes replica content
  fits_there slot is fit =
      let here : replica_at state v ≡ Some fit.replica = sym (ap (replica_for state) for) ∙ fit.here in
      (fit.replica, subst (λ (replica : Option ReplicaState). IsReplicaAt slot replica) here is, fit.fits)

  -- what is so where the message fits the replica that is there is so where it fits the node
  pub where_it_fits : {P : Type 0} (slot : Option Vnode) → ((replica : ReplicaState) → IsReplicaAt slot (Some replica) → ReplicaFits noted.nodes replica content → P) →
      IsReplicaAt slot (replica_at state v) → DeliveryFits noted state from content → P
  where_it_fits slot told is fit = let there = fits_there slot is fit in told there.0 there.1 there.2

  -- none fits that is for a virtual node that is not there
  pub nothing_fits_beyond : length vnodes ≤ v → DeliveryFits noted state from content → ⊥
  nothing_fits_beyond beyond fit =
      let same : ◌≡◌ {A = Option ReplicaState} None (Some fit.replica) =
      sym (none_beyond vnodes state.replicas v are beyond).0 ∙ sym (ap (replica_for state) for) ∙ fit.here in
      absurd cc

-- none fits that is for no virtual node
pub nothing_fits_for_none : (noted : Noted) (state : NodeState) (from : ℕ) (content : Content) → addressed noted.nodes content ≡ None → DeliveryFits noted state from content → ⊥
nothing_fits_for_none noted state from content for fit =
    let same : ◌≡◌ {A = Option ReplicaState} None (Some fit.replica) = sym (ap (replica_for state) for) ∙ fit.here in absurd cc

-- ---- the first replicas

-- either way there are as many slots as virtual nodes
length_either : (b : Bool) (nodes me : ℕ) (primary standby : ReplicaState) →
    length (if b then two_replicas nodes me primary standby else no_replicas) ≡ VIRTUAL_NODES_MAX
length_either true nodes me primary standby =
    length-set (slice_set no_replicas me (Some primary)) (backed_up nodes me) (Some standby)
    ∙ length-set no_replicas me (Some primary)
length_either false nodes me primary standby = refl

-- slots that are empty on both sides
pub none_alike : (n : ℕ) → AllZip IsReplicaAt (replicate n None) (replicate n None)
none_alike zero = tt
none_alike (suc n) = (tt, none_alike n)

-- those of a node are its two first ones
pub first_of_node : (vnodes : List (Option Vnode)) (nodes me before : ℕ) → me < nodes → before ≡ backed_up nodes me →
    AllZip IsReplicaAt vnodes (slice_set (slice_set no_replicas me (Some (first_member nodes me))) before (Some (first_member nodes before))) →
    AllZip IsReplicaAt vnodes (first_node nodes me).replicas
first_of_node vnodes nodes me before below is are =
    let there : nat_lt me nodes ≡ true = grind (arith, nat_tests) in
    rw there (subst (λ (v : ℕ).
    AllZip IsReplicaAt vnodes (slice_set (slice_set no_replicas me (Some (first_member nodes me))) v (Some (first_member nodes v)))) is are)

-- there are as many as virtual nodes
pub first_counted : (vnodes : List (Option Vnode)) (nodes me : ℕ) → AllZip IsReplicaAt vnodes (first_node nodes me).replicas → length vnodes ≡ VIRTUAL_NODES_MAX
first_counted vnodes nodes me are =
    sym (AllZip-long IsReplicaAt vnodes (first_node nodes me).replicas are)
    ∙ length_either (nat_lt me nodes) nodes me (first_member nodes me) (first_member nodes (backed_up nodes me))

-- ---- some state

replica_has_state : (slot : Option Vnode) → (replica : Option ReplicaState) × IsReplicaAt slot replica
replica_has_state None = (None, tt)
replica_has_state (Some vnode) = let state = every_replica_has_state vnode in (Some state.0, state.1)

-- the replicas have a state
pub node_has_state : (vnodes : List (Option Vnode)) → (state : NodeState) × AllZip IsReplicaAt vnodes state.replicas
node_has_state [] = (record { replicas = [] }, tt)
node_has_state (slot ∷ slots) =
    let first = replica_has_state slot in let rest = node_has_state slots in
    (record { replicas = first.0 ∷ rest.0.replicas }, (first.1, rest.1))

-- and one in which a replica has this state, where the replica has it
pub node_has_state_with : (vnodes : List (Option Vnode)) (v : ℕ) (default : Option Vnode) (replica : ReplicaState) → v < length vnodes → IsReplicaAt (slice_index_or vnodes v default) (Some replica) →
    (state : NodeState) × AllZip IsReplicaAt vnodes state.replicas × (replica_at state v ≡ Some replica)
node_has_state_with vnodes v default replica within is =
    let any = node_has_state vnodes in
    let long = AllZip-long IsReplicaAt vnodes any.0.replicas any.1 in (
      record { replicas = slice_set any.0.replicas v (Some replica) },
      subst (λ (slots : List (Option Vnode)). AllZip IsReplicaAt slots (slice_set any.0.replicas v (Some replica))) (set-get_or vnodes v default)
          (zip_set vnodes any.0.replicas v (slice_index_or vnodes v default) (Some replica) any.1 is),
      get_or-set_same any.0.replicas v (Some replica) None (omega (arith, long, within)),
    )
