-- A participant and its decisions are what its log says, record by record.
use Rattle.std.proofs.Common.{◌≡◌, ℕ, ◌+◌, Bool, true, false, List, [], ◌∷◌, ◌++◌, length, fold, Option, Some, None, refl, sym, ◌∙◌, ap, subst, arith}
use Rattle.std.proofs.lemmas.Bool.{false≢true}
use Rattle.std.proofs.lemmas.List.{append-nil, append_assoc, length_push}
use Rattle.std.proofs.lemmas.List.Sums.{fold-append}
use Rattle.cl_backup.specs.Decisions.{decisions_after, decisions_from}
use Rattle.cl_locks.specs.Grants.{mode_held}
use Rattle.cl_log.proofs.Entries.{append-IsNumberedFrom}
use Rattle.cl_log.specs.declared.records.LogRec.{LogRec}
use Rattle.cl_log.specs.declared.records.LogRec.TheVariants as records
use Rattle.cl_log.specs.Kind.{can_be_undone}
use Rattle.cl_log.specs.LogEntry.{LogEntry, IsNumberedFrom}
use Rattle.cl_log.specs.Rest.{rest_to_undo, undo_of}
use Rattle.cl_order.proofs.Records.{Fits as FitsOperation, Fitting, record_fits}
use Rattle.cl_part.proofs.Soundness.{left_undoable}
use Rattle.cl_part.specs.Calls.{refusing, record_left, unless_refused, after_op, after_prepare, after_end, first_undone, undo_now, after_undo, undo_each, after_rollback, after_abort}
use Rattle.cl_part.specs.State.{State, new_state, next_entry, after_record, after_optional}
use Rattle.cl_types.specs.declared.operations.Op.{Op}
use Rattle.cl_types.specs.declared.operations.TxnId.{TxnId}
use Rattle.cl_types.specs.Places.{Place, Stored}
use Rattle.cl_vnode.specs.Step.{after_finish}
use Rattle.cl_pairs.specs.Streams.{part_of}

-- ---- what a log says

-- the participant and the decisions are those of its log
pub record IsSaid (part : State) (decisions : List TxnId) : Type 0 where
  pub state : part ≡ part_of part.log
  pub decided : decisions ≡ decisions_from [] part.log

-- the participant of a log with one record more
part_of-push : (log : List LogEntry) (entry : LogEntry) → part_of (log ++ entry ∷ []) ≡ after_record (part_of log) entry.content
unfolding part_of
part_of-push log entry = fold-append (λ (state : State) (e : LogEntry). after_record state e.content) (new_state 1) log (entry ∷ [])

-- the decisions of a log with one record more
decisions_from-push : (decided : List TxnId) (log : List LogEntry) (entry : LogEntry) →
    decisions_from decided (log ++ entry ∷ []) ≡ decisions_after (decisions_from decided log) entry.content
decisions_from-push decided [] entry = refl
decisions_from-push decided (first ∷ log) entry = decisions_from-push (decisions_after decided first.content) log entry

-- an empty log says nothing
pub said-first : IsSaid (new_state 1) []
unfolding part_of
said-first = record { state = refl; decided = refl }

-- one record more is said too
pub said-record : (part : State) (decisions : List TxnId) (content : LogRec) → IsSaid part decisions →
    IsSaid (after_record part content) (decisions_after decisions content)
unfolding after_record
said-record part decisions content said = record {
  state = ap (λ (p : State). after_record p content) said.state ∙ sym (part_of-push part.log (next_entry part content));
  decided = ap (λ (d : List TxnId). decisions_after d content) said.decided ∙ sym (decisions_from-push [] part.log (next_entry part content));
}

-- ---- numbers

-- the log is numbered from 1 up to the next number
pub record IsCounted (part : State) : Type 0 where
  pub numbered : IsNumberedFrom 1 part.log
  pub next : part.next ≡ length part.log + 1

-- one record more is numbered too
counted-record : (part : State) (content : LogRec) → IsCounted part → IsCounted (after_record part content)
unfolding after_record
counted-record part content counted = record {
  numbered = append-IsNumberedFrom 1 part.log (next_entry part content ∷ []) counted.numbered (let next = counted.next in omega (arith, next), tt);
  next = let next = counted.next in omega (arith, next, length_push part.log (next_entry part content));
}

-- so is each record of a log
counted-fold : (log : List LogEntry) (part : State) → IsCounted part →
    IsCounted (fold (λ (state : State) (e : LogEntry). after_record state e.content) part log)
counted-fold [] part counted = counted
counted-fold (entry ∷ log) part counted = counted-fold log (after_record part entry.content) (counted-record part entry.content counted)

-- the participant of a log is numbered
counted-part_of : (log : List LogEntry) → IsCounted (part_of log)
unfolding part_of
counted-part_of log = counted-fold log (new_state 1) (record { numbered = tt; next = refl })

-- what its log says is numbered
pub counted-said : (part : State) (decisions : List TxnId) → IsSaid part decisions → IsCounted part
counted-said part decisions said = subst IsCounted (sym said.state) (counted-part_of part.log)

-- ---- records that are appended

-- records were appended, and what the participant and the decisions are is said by the log
pub record HasGrown (before part : State) (decisions : List TxnId) : Type 0 where
  pub news : List LogEntry
  pub log : part.log ≡ before.log ++ news
  pub said : IsSaid part decisions

-- the record is no decision
abbrev pub KeepsDecisions : LogRec → Type 0
KeepsDecisions content = (decisions : List TxnId) → decisions_after decisions content ≡ decisions

-- none was appended
pub grown-none : (part : State) (decisions : List TxnId) → IsSaid part decisions → HasGrown part part decisions
grown-none part decisions said = record { news = []; log = sym (append-nil part.log); said = said }

-- one was appended
pub grown-record : (before part : State) (decisions : List TxnId) (content : LogRec) → HasGrown before part decisions →
    HasGrown before (after_record part content) (decisions_after decisions content)
unfolding after_record
grown-record before part decisions content grown = record {
  news = grown.news ++ next_entry part content ∷ [];
  log = ap (λ (log : List LogEntry). log ++ next_entry part content ∷ []) grown.log ∙ append_assoc before.log grown.news (next_entry part content ∷ []);
  said = said-record part decisions content grown.said;
}

module _ (before : State) (decisions : List TxnId) where
  -- one was appended that is no decision
  grown-plain : (part : State) (content : LogRec) → KeepsDecisions content → HasGrown before part decisions →
      HasGrown before (after_record part content) decisions
  grown-plain part content keeps grown =
      subst (HasGrown before (after_record part content)) (keeps decisions) (grown-record before part decisions content grown)

  -- the same, where there is one
  grown-optional : (part : State) (left : Option LogRec) → ((content : LogRec) → left ≡ Some content → KeepsDecisions content) →
      HasGrown before part decisions → HasGrown before (after_optional part left) decisions
  grown-optional part None keeps grown = grown
  grown-optional part (Some content) keeps grown = grown-plain part content (keeps content refl) grown

-- ---- an operation

-- the record of an operation is no decision
operation-keeps : (txn : TxnId) (place : Place) (op : Op) (before : ℕ) (value : Option (List ℕ)) (content : LogRec) →
    FitsOperation txn place op before value content → KeepsDecisions content
operation-keeps txn place op before value (records.Decide other) fits decisions = let locks = fits.locks in cc
operation-keeps txn place op before value content fits decisions = refl

-- the record that an operation leaves is no decision
left-keeps : (part : State) (txn : TxnId) (place : Place) (op : Op) (refused : Option TxnId) (content : LogRec) →
    unless_refused refused (record_left part txn place op) ≡ Some content → KeepsDecisions content
left-keeps part txn place op (Some holder) content is = let none : ◌≡◌ {A = Option LogRec} None (Some content) = is in absurd (cc)
left-keeps part txn place op None content is =
    let stands : Stored = part.stored place in
    operation-keeps txn place op stands.0 stands.1 content
    (subst (Fitting txn place op stands.0 stands.1 (mode_held part.grants txn place)) is
    (record_fits txn place op stands.0 stands.1 (mode_held part.grants txn place)))

-- an operation is carried out
pub grown-op : (before part : State) (decisions : List TxnId) (txn : TxnId) (place : Place) (op : Op) → HasGrown before part decisions →
    HasGrown before (after_op part txn place op) decisions
unfolding after_op
grown-op before part decisions txn place op grown =
    grown-optional before decisions part (unless_refused (refusing part txn place op) (record_left part txn place op))
    (left-keeps part txn place op (refusing part txn place op)) grown

-- ---- an end

module _ (before : State) (decisions : List TxnId) where
  -- an End
  grown-end : (part : State) (txn : TxnId) (commit : Bool) → HasGrown before part decisions → HasGrown before (after_end part txn commit) decisions
  unfolding after_end
  grown-end part txn commit grown = grown-plain before decisions part (records.End txn commit) (λ decisions. refl) grown

  -- a vote
  pub grown-prepare : (part : State) (txn : TxnId) → HasGrown before part decisions → HasGrown before (after_prepare part txn) decisions
  unfolding after_prepare
  grown-prepare part txn grown = grown-plain before decisions part (records.Prepared txn) (λ decisions. refl) grown

  -- the compensation of a write is no decision
  undo-keeps : (content : LogRec) (undone now : ℕ) → can_be_undone content ≡ true → KeepsDecisions (undo_of content undone now)
  undo-keeps (records.Decide txn) undone now is decisions = absurd (false≢true is)
  undo-keeps (records.Touch txn table key mode) undone now is decisions = refl
  undo-keeps (records.Set txn table key before old new) undone now is decisions = refl
  undo-keeps (records.Add txn table key before amount) undone now is decisions = refl
  undo-keeps (records.Comp txn table key before of form) undone now is decisions = refl
  undo-keeps (records.Prepared txn) undone now is decisions = refl
  undo-keeps (records.End txn commit) undone now is decisions = refl

  -- nor is the first that is left to do
  first-keeps : (part : State) (txn : TxnId) (rest : List LogEntry) → rest_to_undo part.log txn ≡ rest → (content : LogRec) →
      first_undone part rest ≡ Some content → KeepsDecisions content
  first-keeps part txn [] left content is = let none : ◌≡◌ {A = Option LogRec} None (Some content) = is in absurd (cc)
  first-keeps part txn (first ∷ others) left content is =
      let both : ◌≡◌ {A = Option LogRec} (Some (undo_now part first)) (Some content) = is in
      let same : undo_now part first ≡ content = cc in
      subst KeepsDecisions same (undo-keeps first.content first.number _ (left_undoable part.log txn first others left))

  -- one undo step
  grown-undo : (part : State) (txn : TxnId) → HasGrown before part decisions → HasGrown before (after_undo part txn) decisions
  unfolding after_undo
  grown-undo part txn grown =
      grown-optional before decisions part (first_undone part (rest_to_undo part.log txn)) (first-keeps part txn (rest_to_undo part.log txn) refl) grown

  -- as many as these entries
  grown-each : (part : State) (txn : TxnId) (rest : List LogEntry) → HasGrown before part decisions → HasGrown before (undo_each part txn rest) decisions
  grown-each part txn [] grown = grown
  grown-each part txn (entry ∷ rest) grown = grown-each (after_undo part txn) txn rest (grown-undo part txn grown)

  -- an end, with its rollback where it is an abort
  pub grown-finish : (part : State) (txn : TxnId) (commit : Bool) → HasGrown before part decisions → HasGrown before (after_finish part txn commit) decisions
  unfolding after_abort after_rollback
  grown-finish part txn true grown = grown-end part txn true grown
  grown-finish part txn false grown = grown-end (after_rollback part txn) txn false (grown-each part txn (rest_to_undo part.log txn) grown)
