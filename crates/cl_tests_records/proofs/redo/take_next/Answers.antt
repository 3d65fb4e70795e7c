use Rattle.std.proofs.Common.{◌≡◌, true, List, ◌+◌, ◌||◌, ap, sym, ◌∙◌, subst, arith}
use Rattle.cl_types.specs.Transactions.{same_txn}
use Rattle.cl_types.proofs.Transactions.{same_txn-itself}
use Rattle.cl_log.specs.LogEntry.{LogEntry}
use Rattle.cl_log.specs.Kind.{txn_of, is_end}
use Rattle.cl_log.specs.Log.{entries}
use Rattle.cl_log.specs.Open.{has_ended}
use Rattle.cl_log.proofs.LogWords.{one-le-next_number}
use Rattle.cl_log.proofs.Open.{has_ended_push-own}
use Rattle.cl_tests_records.specs.declared.redo.TheConstants.{TXN}
use Rattle.cl_tests_records.proofs.redo.take_next.Goals as goal

pub take-requires-clause-number : goal.take-requires-clause-number
take-requires-clause-number g c =
    let one = one-le-next_number c.args.replica.now.log in
    let last = c.last-last.ensures in
    omega (arith, one, last)

pub returns-clause-running : goal.returns-clause-running
returns-clause-running g c goes_on =
    let entry : LogEntry = record { number = c.last-last.result + 1; content = c.args.entry } in
    let own : same_txn (txn_of c.args.entry) TXN ≡ true = subst (λ t. same_txn t TXN ≡ true) (sym c.requires.own) (same_txn-itself TXN) in
    ap (λ (es : List LogEntry). has_ended es TXN) c.in_ok-redone.ensures.log
    ∙ has_ended_push-own TXN (entries c.args.replica.now.log) entry own
    ∙ ap (λ b. b || is_end c.args.entry) c.requires.running ∙ goes_on
