-- A tidy log: no work stands behind the vote of its transaction, whoever was decided has voted, and decisions are made at home.
use Rattle.std.proofs.Common.{◌≡◌, ℕ, Bool, true, false, ◌&&◌, ◌⊎◌, inl, inr, List, [], ◌∷◌, ◌++◌, All, refl, sym, ◌∙◌, ap}
use Rattle.std.proofs.lemmas.Bool.{and_parts, and_from, or_left, or_right, or_cases}
use Rattle.std.proofs.lemmas.List.Elements.{All-nil, All-push}
use Rattle.std.proofs.lemmas.List.Folds.{list_any-append}
use Rattle.cl_log.proofs.Entries.{EachAfter_push}
use Rattle.cl_log.specs.declared.records.LogRec.{LogRec}
use Rattle.cl_log.specs.declared.records.LogRec.TheVariants as records
use Rattle.cl_log.specs.Kind.{txn_of, is_of, opens, is_prepared}
use Rattle.cl_log.specs.LogEntry.{LogEntry, EachAfter}
use Rattle.cl_log.specs.Open.{is_among, has_record, has_begun, has_prepared}
use Rattle.cl_node.specs.Addressing.{home_in}
use Rattle.cl_system.specs.Roles.{IsOfSession}
use Rattle.cl_types.proofs.Transactions.{same_txn-true}
use Rattle.cl_types.specs.declared.operations.TxnId.{TxnId}
use Rattle.cl_held.specs.Work.{is_work}

-- ---- records of a transaction

-- what the log has of a transaction it keeps
pub record_stays : (test : LogRec → Bool) (txn : TxnId) (log more : List LogEntry) → has_record test txn log ≡ true → has_record test txn (log ++ more) ≡ true
record_stays test txn log more is =
    list_any-append (λ (entry : LogEntry). is_of txn entry.content && test entry.content) log more
    ∙ or_left (has_record test txn log) (has_record test txn more) is

-- what a log has that is another behind this one
pub record_behind : (test : LogRec → Bool) (txn : TxnId) (log more : List LogEntry) → has_record test txn more ≡ true → has_record test txn (log ++ more) ≡ true
record_behind test txn log more is =
    list_any-append (λ (entry : LogEntry). is_of txn entry.content && test entry.content) log more
    ∙ or_right (has_record test txn log) (has_record test txn more) is

-- what two logs have, one of them has
pub record_parts : (test : LogRec → Bool) (txn : TxnId) (log more : List LogEntry) → has_record test txn (log ++ more) ≡ true →
    (has_record test txn log ≡ true) ⊎ (has_record test txn more ≡ true)
record_parts test txn log more is =
    or_cases (has_record test txn log) (has_record test txn more)
    (sym (list_any-append (λ (entry : LogEntry). is_of txn entry.content && test entry.content) log more) ∙ is)

-- the record of a log of one
pub record_first : (test : LogRec → Bool) (txn : TxnId) (entry : LogEntry) → has_record test txn (entry ∷ []) ≡ true →
    (is_of txn entry.content ≡ true) × (test entry.content ≡ true)
record_first test txn entry is = elim (or_cases (is_of txn entry.content && test entry.content) false is) [
  | inl here ↦ and_parts (is_of txn entry.content) (test entry.content) here
  | inr none ↦ absurd (let e : false ≡ true = none in cc)
]

-- it has it
pub record_one : (test : LogRec → Bool) (txn : TxnId) (entry : LogEntry) (more : List LogEntry) → is_of txn entry.content ≡ true → test entry.content ≡ true →
    has_record test txn (entry ∷ more) ≡ true
record_one test txn entry more own is =
    or_left (is_of txn entry.content && test entry.content) (has_record test txn more) (and_from (is_of txn entry.content) (test entry.content) own is)

-- what opens a transaction is work
pub opens_is_work : (content : LogRec) → opens content ≡ is_work content
opens_is_work (records.Touch txn table key mode) = refl
opens_is_work (records.Set txn table key before old new) = refl
opens_is_work (records.Add txn table key before amount) = refl
opens_is_work (records.Comp txn table key before undone form) = refl
opens_is_work (records.Prepared txn) = refl
opens_is_work (records.End txn commit) = refl
opens_is_work (records.Decide txn) = refl

-- ---- a tidy log

-- no work stands behind the vote of its transaction
abbrev pub IsFresh : List LogEntry → LogEntry → Type 0
IsFresh seen entry = is_work entry.content ≡ true → has_prepared seen (txn_of entry.content) ≡ false

-- a Decide is of a transaction of a session whose home is here
abbrev pub DecidesAt : ℕ → ℕ → LogRec → Type 0
DecidesAt nodes v (records.Decide txn) = (home_in nodes txn ≡ v) × IsOfSession txn
DecidesAt nodes v content = Unit {0}

-- the log of a virtual node is tidy, under what was decided
pub record IsTidy (nodes v : ℕ) (history : List TxnId) (log : List LogEntry) : Type 0 where
  pub fresh : EachAfter IsFresh [] log
  pub homes : All (λ entry. DecidesAt nodes v entry.content) log
  pub voted : (txn : TxnId) → IsOfSession txn → is_among txn history ≡ true → has_begun log txn ≡ true → has_prepared log txn ≡ true

-- the empty log is
pub tidy_none : (nodes v : ℕ) (history : List TxnId) → IsTidy nodes v history []
unfolding has_begun
tidy_none nodes v history = record {
  fresh = tt;
  homes = All-nil (λ (entry : LogEntry). DecidesAt nodes v entry.content);
  voted = λ txn own member begun. absurd (let e : false ≡ true = begun in cc);
}

module _ (nodes v : ℕ) (history : List TxnId) (log : List LogEntry) (entry : LogEntry) (tidy : IsTidy nodes v history log)
    (decides : DecidesAt nodes v entry.content) where
  -- so it is with a record more that is no work
  pub tidy_idle : is_work entry.content ≡ false → IsTidy nodes v history (log ++ entry ∷ [])
  unfolding has_begun has_prepared
  tidy_idle idle = record {
    fresh = EachAfter_push IsFresh [] log entry tidy.fresh (λ work. absurd (let e : false ≡ true = sym idle ∙ work in cc));
    homes = All-push (λ (e : LogEntry). DecidesAt nodes v e.content) log entry tidy.homes decides;
    voted = λ txn own member begun. elim (record_parts opens txn log (entry ∷ []) begun) [
      | inl old ↦ record_stays is_prepared txn log (entry ∷ []) (tidy.voted txn own member old)
      | inr new ↦ absurd (let e : false ≡ true = sym idle ∙ sym (opens_is_work entry.content) ∙ (record_first opens txn entry new).1 in cc)
    ];
  }

  -- or work of who has not voted, which is its vote, or who was not decided
  pub tidy_work : has_prepared log (txn_of entry.content) ≡ false → (is_prepared entry.content ≡ true) ⊎ (is_among (txn_of entry.content) history ≡ false) →
      IsTidy nodes v history (log ++ entry ∷ [])
  unfolding has_begun has_prepared
  tidy_work unvoted may = record {
    fresh = EachAfter_push IsFresh [] log entry tidy.fresh (λ work. unvoted);
    homes = All-push (λ (e : LogEntry). DecidesAt nodes v e.content) log entry tidy.homes decides;
    voted = λ txn own member begun. elim (record_parts opens txn log (entry ∷ []) begun) [
      | inl old ↦ record_stays is_prepared txn log (entry ∷ []) (tidy.voted txn own member old)
      | inr new ↦ own_voted txn member (record_first opens txn entry new).0 may
    ];
  } where
    own_voted : (txn : TxnId) → is_among txn history ≡ true → is_of txn entry.content ≡ true →
        (is_prepared entry.content ≡ true) ⊎ (is_among (txn_of entry.content) history ≡ false) → has_record is_prepared txn (log ++ entry ∷ []) ≡ true
    own_voted txn member own (inl votes) = record_behind is_prepared txn log (entry ∷ []) (record_one is_prepared txn entry [] own votes)
    own_voted txn member own (inr outside) =
        absurd (let e : true ≡ false = sym member ∙ ap (λ t. is_among t history) (sym (same_txn-true (txn_of entry.content) txn own)) ∙ outside in cc)
