-- Replies that a replay gives, for one more operation; operations of one more command.
use Rattle.std.proofs.Common.{◌≡◌, List, [], ◌∷◌, ◌++◌, Some, ◌∙◌, ap}
use Rattle.std.proofs.lemmas.List.{append-nil}
use Rattle.std.proofs.lemmas.List.Sums.{fold-append}
use Rattle.std.proofs.lemmas.Grind.{flat_map-append}
use Rattle.cl_types.specs.declared.answers.Outcome.TheVariants.{Done}
use Rattle.cl_types.specs.Plain.{plain_reply}
use Rattle.cl_serial.specs.Exchanges.{Exchange}
use Rattle.cl_serial.specs.PlainMap.{Values, Operation, operations, operation_in, after_operation, after_operations, RepliesAgree}

-- the replies to two lists of operations, one behind the other
pub RepliesAgree-append : (values : Values) (xs ys : List Operation) → RepliesAgree values xs → RepliesAgree (after_operations values xs) ys → RepliesAgree values (xs ++ ys)
unfolding RepliesAgree
RepliesAgree-append values [] ys h k = k
RepliesAgree-append values (x ∷ xs) ys h k = (h.0, RepliesAgree-append (after_operation values x) xs ys h.1 k)

-- the replies to the first of two such lists
pub RepliesAgree-front : (values : Values) (xs ys : List Operation) → RepliesAgree values (xs ++ ys) → RepliesAgree values xs
unfolding RepliesAgree
RepliesAgree-front values [] ys h = tt
RepliesAgree-front values (x ∷ xs) ys h = (h.0, RepliesAgree-front (after_operation values x) xs ys h.1)

-- the replies to the second, on the map that the first leaves
pub RepliesAgree-back : (values : Values) (xs ys : List Operation) → RepliesAgree values (xs ++ ys) → RepliesAgree (after_operations values xs) ys
unfolding RepliesAgree
RepliesAgree-back values [] ys h = h
RepliesAgree-back values (x ∷ xs) ys h = RepliesAgree-back (after_operation values x) xs ys h.1

-- one operation that replies as it must
pub RepliesAgree-single : (values : Values) (operation : Operation) → operation.outcome ≡ Some (Done (plain_reply operation.op (values operation.place))) → RepliesAgree values (operation ∷ [])
unfolding RepliesAgree
RepliesAgree-single values operation h = (h, tt)

-- the operations of one more command
pub operations-push : (commands : List Exchange) (one : Exchange) → operations (commands ++ one ∷ []) ≡ operations commands ++ operation_in one
operations-push commands one = flat_map-append operation_in commands (one ∷ []) ∙ ap (λ more. operations commands ++ more) (append-nil (operation_in one))

-- the map after one more operation
pub after_operations-push : (values : Values) (xs : List Operation) (one : Operation) → after_operations values (xs ++ one ∷ []) ≡ after_operation (after_operations values xs) one
after_operations-push values xs one = fold-append after_operation values xs (one ∷ [])
