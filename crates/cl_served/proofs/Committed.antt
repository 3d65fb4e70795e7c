-- What is lawful of the transactions of a session, and what the operations of one that commits are.
use Rattle.std.proofs.Common.{◌≡◌, ℕ, zero, suc, true, inl, inr, ◌⊎◌, List, [], ◌∷◌, ◌++◌, filter, Option, Some, None, refl, sym, ap, ◌∙◌, subst}
use Rattle.std.specs.List.{slice_get, AllByRecursion}
use Rattle.std.specs.Option.{unwrap_or, option_to_list}
use Rattle.std.proofs.lemmas.Bool.{cond-true, false≢true}
use Rattle.std.proofs.lemmas.Grind.{flat_map-append}
use Rattle.std.proofs.lemmas.List.Elements.{filter-append}
use Rattle.cl_serial.proofs.Places.{IsIn-push}
use Rattle.cl_serial.specs.Exchanges.{Exchange, outcome_of}
use Rattle.cl_serial.specs.PlainMap.{Operation, operation_by, operation_in, operations}
use Rattle.cl_serial.specs.Serial.{IsIn}
use Rattle.cl_serial.specs.Transactions.{Transaction}
use Rattle.cl_shown.specs.Sessions.{IsDone, HasEnded, IsGoingOn}
use Rattle.cl_shown.specs.Done.{is_done_outcome}
use Rattle.cl_types.specs.declared.answers.Outcome.{Outcome}
use Rattle.cl_types.specs.declared.answers.Outcome.TheVariants.{Committed}
use Rattle.cl_types.specs.declared.operations.Command.{Command}
use Rattle.cl_types.specs.declared.operations.Command.TheVariants.{Begin, Work, Commit, Abort}
use Rattle.cl_served.proofs.Hearing.{done_added}
use Rattle.cl_served.proofs.Outstanding.{done_among}

-- all commands but the last were done, and the last is COMMIT
pub record IsWhole (commands : List Exchange) : Type 0 where
  pub front : List Exchange
  pub last : Exchange
  pub commands_are : commands ≡ front ++ last ∷ []
  pub done : AllByRecursion IsDone front
  pub commits : last.command ≡ Commit

one_done : (command : Command) (outcome : Option Outcome) → is_done_outcome outcome ≡ true →
    filter (λ (operation : Operation). is_done_outcome operation.outcome) (operation_by command outcome) ≡ operation_by command outcome
one_done Begin outcome is = refl
one_done (Work table key op) outcome is = cond-true _ _ _ is
one_done Commit outcome is = refl
one_done Abort outcome is = refl

all_done : (front : List Exchange) → AllByRecursion IsDone front → done_among front ≡ operations front
all_done [] all = refl
all_done (one ∷ front) all =
    filter-append (λ (operation : Operation). is_done_outcome operation.outcome) (operation_in one) (operations front)
    ∙ (ap (λ list. list ++ done_among front) (one_done one.command (outcome_of one) all.0) ∙ ap (λ list. operation_in one ++ list) (all_done front all.1))

none_by : (last : Exchange) → last.command ≡ Commit → operations (last ∷ []) ≡ []
none_by last is = ap (λ command. operation_by command (outcome_of last) ++ []) is

-- so all of its operations were done
pub whole_done : (commands : List Exchange) → IsWhole commands → done_among commands ≡ operations commands
whole_done commands is =
    let none : operations (is.last ∷ []) ≡ [] = none_by is.last is.commits in
    let few : done_among (is.last ∷ []) ≡ [] = ap (filter (λ (operation : Operation). is_done_outcome operation.outcome)) none in
    ap done_among is.commands_are
    ∙ (done_added is.front (is.last ∷ [])
    ∙ (ap (λ list. done_among is.front ++ list) few
    ∙ (ap (λ list. list ++ []) (all_done is.front is.done)
    ∙ (ap (λ list. operations is.front ++ list) (sym none)
    ∙ (sym (flat_map-append operation_in is.front (is.last ∷ [])) ∙ ap operations (sym is.commands_are))))))

pub all_at : {X : Type 0} (P : X → Type 0) (xs : List X) (k : ℕ) (x : X) → AllByRecursion P xs → slice_get xs k ≡ Some x → P x
all_at P [] k x all at = absurd (let none : ◌≡◌ {A = Option _} None (Some x) = at in cc)
all_at P (y ∷ xs) zero x all at = subst P (ap (λ (o : Option _). unwrap_or o y) at) all.0
all_at P (y ∷ xs) (suc k) x all at = all_at P xs k x all.1 at

-- a transaction has ended, or is the one that the session is in
pub lawful_at : (ended : List Transaction) (current : Option Transaction) (k : ℕ) (transaction : Transaction) → AllByRecursion HasEnded ended →
    IsGoingOn current → slice_get (ended ++ option_to_list current) k ≡ Some transaction →
    HasEnded transaction ⊎ AllByRecursion IsDone transaction.commands
lawful_at [] None k transaction all going at = absurd (let none : ◌≡◌ {A = Option Transaction} None (Some transaction) = at in cc)
lawful_at [] (Some current) zero transaction all going at = inr
    (subst (λ (t : Transaction). AllByRecursion IsDone t.commands) (ap (λ (o : Option Transaction). unwrap_or o current) at) going)
lawful_at [] (Some current) (suc k) transaction all going at = absurd (let none : ◌≡◌ {A = Option Transaction} None (Some transaction) = at in cc)
lawful_at (x ∷ ended) current zero transaction all going at = inl (subst HasEnded (ap (λ (o : Option Transaction). unwrap_or o x) at) all.0)
lawful_at (x ∷ ended) current (suc k) transaction all going at = lawful_at ended current k transaction all.1 going at

-- COMMITTED answers no command that was done
not_done : (exchange : Exchange) → IsDone exchange → outcome_of exchange ≡ Some Committed → ⊥
not_done exchange done is = false≢true (sym (ap is_done_outcome is) ∙ done)

none_committed : (front : List Exchange) (exchange : Exchange) → AllByRecursion IsDone front → IsIn front exchange → outcome_of exchange ≡ Some Committed → ⊥
none_committed front exchange all is_in is = not_done exchange (all_at IsDone front is_in.0 exchange all is_in.1) is

-- so the command that was answered COMMITTED is one
pub committed_once : (transaction : Transaction) → HasEnded transaction ⊎ AllByRecursion IsDone transaction.commands → (one other : Exchange) →
    IsIn transaction.commands one → IsIn transaction.commands other →
    outcome_of one ≡ Some Committed → outcome_of other ≡ Some Committed → one ≡ other
committed_once transaction (inr going) one other is_one is_other says_one says_other = absurd (none_committed transaction.commands one going is_one says_one)
committed_once transaction (inl ended) one other is_one is_other says_one says_other =
    last_of one is_one says_one ∙ sym (last_of other is_other says_other)
  where
    last_of : (exchange : Exchange) → IsIn transaction.commands exchange → outcome_of exchange ≡ Some Committed → exchange ≡ ended.last
    last_of exchange is_in says = elim (IsIn-push ended.front ended.last exchange (subst (λ list. IsIn list exchange) ended.commands_are is_in)) [
      | inl old ↦ absurd (none_committed ended.front exchange ended.done old says)
      | inr new ↦ new
    ]
