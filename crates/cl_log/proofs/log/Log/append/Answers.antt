use Rattle.std.proofs.Common.{List, [], ◌∷◌, ◌++◌, sym, ap, ◌∙◌, cond}
use Rattle.cl_types.specs.declared.operations.TxnId.{TxnId}
use Rattle.cl_types.specs.Transactions.{same_txn}
use Rattle.cl_log.specs.declared.known.Known.{Known}
use Rattle.cl_log.specs.Known.{known_at, known_from, known_with}
use Rattle.cl_log.specs.Log.{entries}
use Rattle.cl_log.specs.LogEntry.{LogEntry}
use Rattle.cl_log.specs.Rest.{is_undone}
use Rattle.cl_log.specs.SlotList.{entries_in}
use Rattle.cl_log.proofs.KnownFacts.{indexed_push}
use Rattle.cl_log.proofs.log.Log.append.Goals as goal

pub invariant_of-self : goal.invariant_of-self
unfolding entries
invariant_of-self c =
    let log = c.args.self.now in
    let kept = entries_in log.records in
    let number = c.next-number.result in
    let content = c.args.content in
    let between : TxnId → Known = known_at c.uncover.new.index in
    record {
      is_indexed = λ txn.
          indexed_push kept number content c.uncovered-uncovered.result (known_at log.index) between (known_at c.put.new.index)
          log.is_indexed c.uncover.ensures.known c.uncovered-uncovered.ensures.left
          (λ other.
          c.put.ensures.known other
          ∙ ap (λ known. cond (same_txn c.txn-txn.result other) known (between other))
          (c.with.ensures
          ∙ ap (λ known. known_with known content number c.is_named-is_undone.result) c.known_of-known.ensures
          ∙ ap (known_with (between c.txn-txn.result) content number) c.is_named-is_undone.ensures)
          ∙ ap (λ own. cond (same_txn own other) (known_with (between own) content number (is_undone kept number)) (between other)) c.txn-txn.ensures)
          txn
          ∙ ap (λ (es : List LogEntry). known_from es txn)
          (sym (c.push.ensures.entries ∙ ap (λ n. kept ++ (let entry : LogEntry = record { number = n; content = content } in entry) ∷ []) (sym c.next-number.ensures)));
    }
