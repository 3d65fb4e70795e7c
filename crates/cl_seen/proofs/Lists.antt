-- Lists of messages, without those between a primary and its standby.
use Rattle.std.proofs.Common.{◌≡◌, ℕ, nat_lt, eqb, true, false, cond, List, [], ◌∷◌, ◌++◌, append_assoc, All, map, filter, IsPermutation, refl, sym, ◌∙◌, ap}
use Rattle.std.proofs.Common.{subst}
use Rattle.std.proofs.lemmas.List.{map-append}
use Rattle.std.proofs.lemmas.List.Elements.{All-nil, All-cons, All-head, All-tail, filter-append}
use Rattle.std.proofs.lemmas.List.Sorted.{IsPermutation-append_comm, IsPermutation-append_left, IsPermutation-append_right}
use Rattle.cl_endpoint.specs.Laws.{contents_to}
use Rattle.cl_endpoint.specs.declared.limits.TheConstants.{ACTORS}
use Rattle.cl_log.specs.LogEntry.{LogEntry}
use Rattle.cl_repair.specs.declared.mode.Mode.{Mode}
use Rattle.cl_repair.specs.declared.mode.Mode.TheVariants.{Lone, Pair}
use Rattle.cl_runs.specs.Queues.{sent_to}
use Rattle.cl_steps.specs.declared.steps.Outgoing.{Outgoing}
use Rattle.cl_system.specs.Roles.{IsAddressed}
use Rattle.cl_vnode.specs.Step.{log_message, log_messages}
use Rattle.cl_wire.specs.Message.{Content, Command, Outcome, Ask, Answer, Prepare, Vote, Finish}
use Rattle.cl_seen.specs.Seen.{is_internal, outward}

-- what is sent to an actor of two lists of messages
pub sent_to-append : (to : ℕ) (sends more : List Outgoing) → sent_to to (sends ++ more) ≡ sent_to to sends ++ sent_to to more
sent_to-append to sends more =
    elim (nat_lt to ACTORS) as (λ b. cond b (contents_to to (sends ++ more)) [] ≡ cond b (contents_to to sends) [] ++ cond b (contents_to to more) []) [
      | true ↦ ap (map (λ (send : Outgoing). send.payload)) (filter-append (λ (send : Outgoing). eqb send.to to) sends more)
          ∙ map-append (λ (send : Outgoing). send.payload) (filter (λ (send : Outgoing). eqb send.to to) sends)
          (filter (λ (send : Outgoing). eqb send.to to) more)
      | false ↦ refl
    ]

-- what is outward of two lists
pub outward-append : (one other : List Content) → outward (one ++ other) ≡ outward one ++ outward other
outward-append one other = filter-append (λ content. cond (is_internal content) false true) one other

-- an outward message stays
pub outward_one : (content : Content) (rest : List Content) → is_internal content ≡ false → outward (content ∷ rest) ≡ content ∷ outward rest
outward_one content rest is = ap (λ b. cond (cond b false true) (content ∷ outward rest) (outward rest)) is

-- an internal one is left out
pub outward_none : (content : Content) (rest : List Content) → is_internal content ≡ true → outward (content ∷ rest) ≡ outward rest
outward_none content rest is = ap (λ b. cond (cond b false true) (content ∷ outward rest) (outward rest)) is

-- a message between the actors that its kind names is outward
addressed_outward : (nodes from to : ℕ) (content : Content) → IsAddressed nodes from to content → is_internal content ≡ false
addressed_outward nodes from to (Command v txn number what) is = refl
addressed_outward nodes from to (Outcome txn number outcome) is = refl
addressed_outward nodes from to (Ask v txn number table key op) is = refl
addressed_outward nodes from to (Answer v txn number answer) is = refl
addressed_outward nodes from to (Prepare v txn) is = refl
addressed_outward nodes from to (Vote v txn) is = refl
addressed_outward nodes from to (Finish v txn commit) is = refl
addressed_outward nodes from to content is = absurd is

-- so are all of a list
pub all_outward : (nodes from to : ℕ) (list : List Content) → All (IsAddressed nodes from to) list → outward list ≡ list
all_outward nodes from to [] all = refl
all_outward nodes from to (content ∷ list) all =
    outward_one content list (addressed_outward nodes from to content (All-head (IsAddressed nodes from to) content list all))
    ∙ ap (λ rest. content ∷ rest) (all_outward nodes from to list (All-tail (IsAddressed nodes from to) content list all))

-- what holds of all of two lists holds of the second
pub All-second : {X : Type 0} (P : X → Type 0) (one other : List X) → All P (one ++ other) → All P other
All-second P [] other all = all
All-second P (x ∷ one) other all = All-second P one other (All-tail P x (one ++ other) all)

-- and of the first
pub All-first : {X : Type 0} (P : X → Type 0) (one other : List X) → All P (one ++ other) → All P one
All-first P [] other all = All-nil P
All-first P (x ∷ one) other all = All-cons P x one (All-head P x (one ++ other) all) (All-first P one other (All-tail P x (one ++ other) all))

-- log records for a standby are not outward
logs_inward : (standby v to : ℕ) (entries : List LogEntry) → outward (contents_to to (map (log_message standby v) entries)) ≡ []
logs_inward standby v to [] = refl
logs_inward standby v to (entry ∷ entries) =
    elim (eqb standby to) as
    (λ b. outward (map (λ (send : Outgoing). send.payload)
    (cond b (log_message standby v entry ∷ filter (λ (send : Outgoing). eqb send.to to) (map (log_message standby v) entries))
    (filter (λ (send : Outgoing). eqb send.to to) (map (log_message standby v) entries)))) ≡ []) [
      | true ↦ logs_inward standby v to entries
      | false ↦ logs_inward standby v to entries
    ]

-- whatever the mode
pub shipped_inward : (mode : Mode) (v to : ℕ) (entries : List LogEntry) → outward (sent_to to (log_messages mode v entries)) ≡ []
shipped_inward Lone v to entries = elim (nat_lt to ACTORS) as (λ b. outward (cond b [] []) ≡ []) [ true ↦ refl | false ↦ refl ]
shipped_inward (Pair standby) v to entries =
    elim (nat_lt to ACTORS) as
    (λ b. outward (cond b (contents_to to (map (log_message standby v) entries)) []) ≡ []) [ true ↦ logs_inward standby v to entries | false ↦ refl ]

-- what is sent now goes before what is still to be told
pub sent_before : (way waits now later : List Content) → IsPermutation ((way ++ waits) ++ (now ++ later)) ((way ++ now) ++ (waits ++ later))
sent_before way waits now later =
    let left : (way ++ waits) ++ (now ++ later) ≡ way ++ ((waits ++ now) ++ later)
    = append_assoc way waits (now ++ later) ∙ ap (λ list. way ++ list) (sym (append_assoc waits now later)) in
    let right : (way ++ now) ++ (waits ++ later) ≡ way ++ ((now ++ waits) ++ later)
    = append_assoc way now (waits ++ later) ∙ ap (λ list. way ++ list) (sym (append_assoc now waits later)) in
    subst (λ list. IsPermutation list ((way ++ now) ++ (waits ++ later))) (sym left)
    (subst (λ list. IsPermutation (way ++ ((waits ++ now) ++ later)) list) (sym right)
    (IsPermutation-append_right way ((waits ++ now) ++ later) ((now ++ waits) ++ later)
    (IsPermutation-append_left later (waits ++ now) (now ++ waits) (IsPermutation-append_comm waits now))))
