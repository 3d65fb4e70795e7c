-- There is one verdict, and Same says that the history replays the transcript.
use Rattle.std.proofs.Common.{◌≡◌, ℕ, suc, ◌<◌, inl, inr, ◌↔◌, List, [], ◌∷◌, ◌++◌, Option, Some, None, IsSome, refl, sym, ap, ◌∙◌, subst, arith}
use Rattle.std.specs.Option.{unwrap_or}
use Rattle.std.specs.List.{flat_map}
use Rattle.std.proofs.lemmas.List.Sums.{fold-append}
use Rattle.std.proofs.lemmas.Bool.{cases_eq, cases_lt}
use Rattle.cl_types.specs.declared.operations.Command.{Command}
use Rattle.cl_types.specs.declared.operations.Command.TheVariants.{Begin, Work, Commit, Abort}
use Rattle.cl_types.specs.declared.operations.TxnId.{TxnId}
use Rattle.cl_types.specs.declared.answers.Outcome.{Outcome}
use Rattle.cl_serial.specs.Transcript.{TranscriptEntry}
use Rattle.cl_serial.specs.Exchanges.{Exchange, outcome_of}
use Rattle.cl_serial.specs.Transactions.{commands_of}
use Rattle.cl_serial.specs.PlainMap.{Values, Operation, operation_in, operation_by, operations, no_values, after_operation, after_operations, RepliesAgree}
use Rattle.cl_serial.specs.Serial.{StandsAt, IsIn, HistoryFits, operations_of}
use Rattle.cl_serial.specs.Verdict.{Commands, IsUnfit, FirstUnfit, AreFit, WrittenAgree, FirstDifference, VerdictOn, IsVerdict, replayed_outcome}
use Rattle.cl_serial.specs.declared.verdict.Verdict.{Verdict}
use Rattle.cl_serial.specs.declared.verdict.Verdict.TheVariants.{Same, Unfit, First}
use Rattle.cl_serial.proofs.FirstDifferences.{operations-append}

-- ---- replies that agree

-- replies that agree are written outcomes that agree
written_from_replies : (values : Values) (list : List Operation) → RepliesAgree values list → WrittenAgree values list
unfolding RepliesAgree WrittenAgree
written_from_replies values [] h = tt
written_from_replies values (x ∷ list) h = ((λ written is. let has : x.outcome ≡ Some (replayed_outcome values x) = h.0 in cc), written_from_replies (after_operation values x) list h.1)

reply_is : (outcome : Option Outcome) (replayed : Outcome) → IsSome outcome → ((written : Outcome) → outcome ≡ Some written → written ≡ replayed) → outcome ≡ Some replayed
reply_is None replayed some agrees = absurd (cc)
reply_is (Some written) replayed some agrees = ap Some (agrees written refl)

-- and where each operation was answered, the other way round
replies_from_written : (values : Values) (list : List Operation) → ((operation : Operation) → IsIn list operation → IsSome operation.outcome) → WrittenAgree values list → RepliesAgree values list
unfolding RepliesAgree WrittenAgree
replies_from_written values [] replied h = tt
replies_from_written values (x ∷ list) replied h =
    (reply_is x.outcome (replayed_outcome values x) (replied x (0, refl)) h.0, replies_from_written (after_operation values x) list (λ operation is_in. replied operation (suc is_in.0, is_in.1)) h.1)

-- the operations of the members' commands
operations-flat_map : (commands : Commands) (history : List TxnId) → operations (flat_map commands history) ≡ flat_map (λ name. operations (commands name)) history
operations-flat_map commands [] = refl
operations-flat_map commands (name ∷ history) =
    operations-append (commands name) (flat_map commands history) ∙ ap (λ more. operations (commands name) ++ more) (operations-flat_map commands history)

pub same_says_replay : (transcript : List TranscriptEntry) (history : List TxnId) → ((operation : Operation) → IsIn (operations_of transcript history) operation → IsSome operation.outcome)
    → IsVerdict transcript history Same ↔ (AreFit (commands_of transcript) history × RepliesAgree no_values (operations_of transcript history))
same_says_replay transcript history replied =
    let same = operations-flat_map (commands_of transcript) history in (
      λ h. (h.0, replies_from_written no_values (operations_of transcript history) replied (subst (WrittenAgree no_values) same h.1)),
      λ h. (h.0, subst (WrittenAgree no_values) (sym same) (written_from_replies no_values (operations_of transcript history) h.1)),
    )

-- ---- one verdict

fit-not-unfit : (commands : Commands) (history : List TxnId) (index : ℕ) (name : TxnId) → AreFit commands history → StandsAt history index name → IsUnfit commands history index name → ⊥
fit-not-unfit commands history index name fit stands (inl again) =
    let same : index ≡ again.0 = fit.distinct index again.0 name stands again.2 in
    let below : index < again.0 = again.1 in
    omega arith
fit-not-unfit commands history index name fit stands (inr lacks) = lacks (fit.committing name (index, stands))

no_unfit : (commands : Commands) (history : List TxnId) (name : TxnId) → AreFit commands history → FirstUnfit commands history name → ⊥
no_unfit commands history name fit first = fit-not-unfit commands history first.index name fit first.stands first.unfit

one_at : (history : List TxnId) (i j : ℕ) (x y : TxnId) → i ≡ j → StandsAt history i x → StandsAt history j y → x ≡ y
one_at history i j x y same h g = cc

one_unfit : (commands : Commands) (history : List TxnId) (x y : TxnId) → FirstUnfit commands history x → FirstUnfit commands history y → x ≡ y
one_unfit commands history x y first second =
    elim (cases_eq first.index second.index) [
      | inl same ↦ one_at history first.index second.index x y same first.stands second.stands
      | inr apart ↦ elim (cases_lt first.index second.index) [
        | inl less ↦ absurd (second.before first.index x less first.stands first.unfit)
        | inr more ↦ absurd (first.before second.index y (omega arith) second.stands second.unfit)
      ]
    ]

-- an exchange whose written outcome differs on these values
record Differs (values : Values) (exchange : Exchange) : Type 0 where
  operation : Operation
  is_operation : operation_in exchange ≡ operation ∷ []
  written : Outcome
  has : operation.outcome ≡ Some written
  differs : written ≡ replayed_outcome values operation → ⊥

outcome_by : (command : Command) (outcome : Option Outcome) (operation : Operation) → operation_by command outcome ≡ operation ∷ [] → operation.outcome ≡ outcome
outcome_by Begin outcome operation h = absurd (cc)
outcome_by (Work table key op) outcome operation h =
    let same : record { place = (table, key); op = op; outcome = outcome } ≡ operation = cc in ap (λ (o : Operation). o.outcome) (sym same)
outcome_by Commit outcome operation h = absurd (cc)
outcome_by Abort outcome operation h = absurd (cc)

outcome_at : (answer : Option (Outcome × ℕ)) (written : Outcome) (place : ℕ) → answer ≡ Some (written, place) → (elim answer as (λ _. Option Outcome) [ None ↦ None | Some given ↦ Some given.0 ]) ≡ Some written
outcome_at None written place h = absurd (cc)
outcome_at (Some given) written place h = let same : given ≡ (written, place) = cc in ap (λ (g : Outcome × ℕ). Some g.0) same

differs_at : (values : Values) (commands : List Exchange) (place : ℕ) (written replayed : Outcome) (d : FirstDifference values commands place written replayed) → Differs (after_operations values (operations d.before)) d.exchange
differs_at values commands place written replayed d = record {
  operation = d.operation;
  is_operation = d.is_operation;
  written = written;
  has = outcome_by d.exchange.command (outcome_of d.exchange) d.operation d.is_operation ∙ outcome_at d.exchange.answer written place d.answered;
  differs = λ same. d.differs (same ∙ sym d.replays);
}

-- where it differs, the written outcomes of it and what follows do not agree
not_agree : (values : Values) (exchange : Exchange) (rest : List Exchange) → Differs values exchange → WrittenAgree values (operations (exchange ∷ rest)) → ⊥
unfolding WrittenAgree
not_agree values exchange rest d h =
    let agrees : WrittenAgree values (d.operation ∷ operations rest) = subst (λ (list : List Operation). WrittenAgree values (list ++ operations rest)) d.is_operation h in
    d.differs (agrees.0 d.written d.has)

written_back : (values : Values) (xs ys : List Operation) → WrittenAgree values (xs ++ ys) → WrittenAgree (after_operations values xs) ys
unfolding WrittenAgree
written_back values [] ys h = h
written_back values (x ∷ xs) ys h = written_back (after_operation values x) xs ys h.1

no_difference : (values : Values) (commands : List Exchange) (place : ℕ) (written replayed : Outcome) → WrittenAgree values (operations commands) → FirstDifference values commands place written replayed → ⊥
no_difference values commands place written replayed agree d =
    let split : operations commands ≡ operations d.before ++ operations (d.exchange ∷ d.after) = ap operations d.split ∙ operations-append d.before (d.exchange ∷ d.after) in
    not_agree (after_operations values (operations d.before)) d.exchange d.after (differs_at values commands place written replayed d)
    (written_back values (operations d.before) (operations (d.exchange ∷ d.after)) (subst (WrittenAgree values) split agree))

-- two differences of one list of commands are at one exchange, behind the same commands
one_split : (values : Values) (before before' : List Exchange) (x x' : Exchange) (after after' : List Exchange) → before ++ x ∷ after ≡ before' ++ x' ∷ after'
    → WrittenAgree values (operations before) → Differs (after_operations values (operations before)) x → WrittenAgree values (operations before') → Differs (after_operations values (operations before')) x' → (before ≡ before') × (x ≡ x')
one_split values [] [] x x' after after' same agree d agree' d' = (refl, cc)
one_split values [] (y ∷ before') x x' after after' same agree d agree' d' =
    let first : x ≡ y = cc in
    absurd (not_agree values y before' (subst (Differs values) first d) agree')
one_split values (y ∷ before) [] x x' after after' same agree d agree' d' =
    let first : x' ≡ y = cc in
    absurd (not_agree values y before (subst (Differs values) first d') agree)
one_split values (y ∷ before) (z ∷ before') x x' after after' same agree d agree' d' =
    let first : z ≡ y = cc in
    let rest : before ++ x ∷ after ≡ before' ++ x' ∷ after' = cc in
    let next : Values = after_operations values (operation_in y) in
    let step : (list : List Exchange) → WrittenAgree values (operations (y ∷ list)) → WrittenAgree next (operations list) = λ list h. written_back values (operation_in y) (operations list) h in
    let here : (list : List Exchange) → after_operations values (operations (y ∷ list)) ≡ after_operations next (operations list) = λ list. fold-append after_operation values (operation_in y) (operations list) in
    let agree_y : WrittenAgree values (operations (y ∷ before')) = subst (λ (e : Exchange). WrittenAgree values (operations (e ∷ before'))) first agree' in
    let d_y : Differs (after_operations values (operations (y ∷ before'))) x' = subst (λ (e : Exchange). Differs (after_operations values (operations (e ∷ before'))) x') first d' in
    let tails = one_split next before before' x x' after after' rest (step before agree) (subst (λ (v : Values). Differs v x) (here before) d) (step before' agree_y) (subst (λ (v : Values). Differs v x') (here before') d_y) in
    ((λ i. sym first i ∷ tails.0 i), tails.1)

one_operation : (xs ys : Exchange) (x y : Operation) → xs ≡ ys → operation_in xs ≡ x ∷ [] → operation_in ys ≡ y ∷ [] → x ≡ y
one_operation xs ys x y same h g = let lists : x ∷ [] ≡ y ∷ [] = sym h ∙ ap operation_in same ∙ g in cc

one_answer : (xs ys : Exchange) (written written' : Outcome) (place place' : ℕ) → xs ≡ ys → xs.answer ≡ Some (written, place) → ys.answer ≡ Some (written', place') → (written ≡ written') × (place ≡ place')
one_answer xs ys written written' place place' same h g =
    let answers : Some (written, place) ≡ Some (written', place') = sym h ∙ ap (λ (e : Exchange). e.answer) same ∙ g in
    (ap (λ (o : Option (Outcome × ℕ)). (unwrap_or o (written, place)).0) answers, ap (λ (o : Option (Outcome × ℕ)). (unwrap_or o (written, place)).1) answers)

one_difference : (values : Values) (commands : List Exchange) (place place' : ℕ) (written written' replayed replayed' : Outcome) → FirstDifference values commands place written replayed → FirstDifference values commands place' written' replayed'
    → First place written replayed ≡ First place' written' replayed'
one_difference values commands place place' written written' replayed replayed' d d' =
    let same = one_split values d.before d'.before d.exchange d'.exchange d.after d'.after (sym d.split ∙ d'.split) d.agree (differs_at values commands place written replayed d) d'.agree (differs_at values commands place' written' replayed' d') in
    let answers = one_answer d.exchange d'.exchange written written' place place' same.1 d.answered d'.answered in
    let operation = one_operation d.exchange d'.exchange d.operation d'.operation same.1 d.is_operation d'.is_operation in
    let replays : replayed ≡ replayed' = d.replays ∙ (λ i. replayed_outcome (after_operations values (operations (same.0 i))) (operation i)) ∙ sym d'.replays in
    (λ i. First (answers.1 i) (answers.0 i) (replays i))

pub one_verdict : (commands : Commands) (history : List TxnId) (v w : Verdict) → VerdictOn commands history v → VerdictOn commands history w → v ≡ w
one_verdict commands history Same Same h g = refl
one_verdict commands history Same (Unfit name) h g = absurd (no_unfit commands history name h.0 g)
one_verdict commands history Same (First place written replayed) h g = absurd (no_difference no_values (flat_map commands history) place written replayed h.1 g.1)
one_verdict commands history (Unfit name) Same h g = absurd (no_unfit commands history name g.0 h)
one_verdict commands history (Unfit name) (Unfit other) h g = ap Unfit (one_unfit commands history name other h g)
one_verdict commands history (Unfit name) (First place written replayed) h g = absurd (no_unfit commands history name g.0 h)
one_verdict commands history (First place written replayed) Same h g = absurd (no_difference no_values (flat_map commands history) place written replayed g.1 h.1)
one_verdict commands history (First place written replayed) (Unfit name) h g = absurd (no_unfit commands history name h.0 g)
one_verdict commands history (First place written replayed) (First place' written' replayed') h g =
    one_difference no_values (flat_map commands history) place place' written written' replayed replayed' h.1 g.1

-- a history that fits has the verdict Same
pub fit_is_same : (transcript : List TranscriptEntry) (history : List TxnId) → HistoryFits transcript history → IsVerdict transcript history Same
fit_is_same transcript history fits = (
  record { distinct = fits.distinct; committing = fits.committing },
  subst (WrittenAgree no_values) (sym (operations-flat_map (commands_of transcript) history)) (written_from_replies no_values (operations_of transcript history) fits.replies_replay),
)
