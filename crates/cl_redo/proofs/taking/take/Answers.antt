use Rattle.std.proofs.Common.{◌≡◌, ◌++◌, [], ◌∷◌, List, ap, sym, ◌∙◌, arith}
use Rattle.cl_log.specs.LogEntry.{LogEntry}
use Rattle.cl_log.specs.Log.{entries}
use Rattle.cl_log.specs.Locks.{locks_of_log}
use Rattle.cl_log.specs.Store.{store_of_log}
use Rattle.cl_locks.specs.Table.{held}
use Rattle.cl_store.specs.Store.{stored}
use Rattle.cl_redo.proofs.Follows.{store_follows, locks_follow}
use Rattle.cl_redo.proofs.Skips.{skipped-ahead}
use Rattle.cl_redo.proofs.taking.take.Goals as goal

pub returns-clause-store_of_log : goal.returns-clause-store_of_log
returns-clause-store_of_log c is_store place =
    let entry : LogEntry = record { number = c.args.number; content = c.args.content } in
    let appended : entries c.append.new.self ≡ entries c.args.log.now ++ entry ∷ [] = grind arith in
    c.in_ok-redone.ensures.store place
    ∙ store_follows c.args.log.now entry (stored c.args.store.now) c.requires.number c.requires.meets is_store place
    ∙ ap (λ (es : List LogEntry). store_of_log es place) (sym appended)

pub returns-clause-locks_of_log : goal.returns-clause-locks_of_log
returns-clause-locks_of_log c are_locks txn place =
    let entry : LogEntry = record { number = c.args.number; content = c.args.content } in
    let appended : entries c.append.new.self ≡ entries c.args.log.now ++ entry ∷ [] = grind arith in
    c.in_ok-redone.ensures.modes txn place
    ∙ locks_follow c.args.log.now entry (held c.args.locks.now) c.requires.unended are_locks txn place
    ∙ ap (λ (es : List LogEntry). locks_of_log es txn place) (sym appended)

pub returns-clause-skipped : goal.returns-clause-skipped
returns-clause-skipped c = skipped-ahead (stored c.args.store.now) (record { number = c.args.number; content = c.args.content }) c.requires.meets c.in_ok-redone.redone c.in_ok-redone.ensures.redone
