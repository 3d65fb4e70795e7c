-- The first difference of a replay, one list of commands behind another.
use Rattle.std.proofs.Common.{◌≡◌, ℕ, suc, ◌+◌, ◌<◌, List, [], ◌∷◌, ◌++◌, length, take, drop, get_or, Option, Some, None, refl, sym, ap, ◌∙◌, subst, append_assoc}
use Rattle.std.specs.List.{flat_map}
use Rattle.std.proofs.lemmas.List.Sums.{fold-append}
use Rattle.std.proofs.lemmas.Grind.{flat_map-append}
use Rattle.std.proofs.lemmas.List.{take_more, take-append-drop, append-nil}
use Rattle.std.proofs.Common.{drop-cons}
use Rattle.cl_types.specs.declared.operations.Command.{Command}
use Rattle.cl_types.specs.declared.operations.Command.TheVariants.{Begin, Work, Commit, Abort}
use Rattle.cl_types.specs.declared.operations.Op.{Op}
use Rattle.cl_types.specs.declared.operations.TxnId.{TxnId}
use Rattle.cl_types.specs.declared.answers.Reply.{Reply}
use Rattle.cl_types.specs.declared.answers.Outcome.{Outcome}
use Rattle.cl_types.specs.declared.answers.Outcome.TheVariants.{Done}
use Rattle.cl_types.specs.Plain.{plain_reply, plain_value}
use Rattle.cl_types.specs.Places.{Place}
use Rattle.cl_serial.specs.Exchanges.{Exchange, outcome_of}
use Rattle.cl_serial.specs.PlainMap.{Values, Operation, updated, operation_in, operation_by, operations, no_values, after_operation, after_operations}
use Rattle.cl_serial.specs.Verdict.{Commands, WrittenAgree, FirstDifference, replayed_outcome}
use Rattle.cl_serial.specs.Replaying.{Agrees, Replays, Tells, AnswerIs}
use Rattle.cl_serial.specs.declared.replaying.Difference.{Difference}
use Rattle.cl_serial.proofs.PlainMapLemmas.{same_values}

pub operations-append : (xs ys : List Exchange) → operations (xs ++ ys) ≡ operations xs ++ operations ys
operations-append xs ys = flat_map-append operation_in xs ys

-- the written outcomes of two lists, one behind the other
pub WrittenAgree-append : (values : Values) (xs ys : List Operation) → WrittenAgree values xs → WrittenAgree (after_operations values xs) ys → WrittenAgree values (xs ++ ys)
unfolding WrittenAgree
WrittenAgree-append values [] ys h k = k
WrittenAgree-append values (x ∷ xs) ys h k = (h.0, WrittenAgree-append (after_operation values x) xs ys h.1 k)

-- no command agrees, and leaves the map
pub Agrees-nil : (values : Values) → Agrees values [] values
unfolding WrittenAgree
Agrees-nil values = record { agree = tt; values = refl }

after_both : (v0 v1 : Values) (xs ys : List Exchange) → v1 ≡ after_operations v0 (operations xs) → after_operations v1 (operations ys) ≡ after_operations v0 (operations (xs ++ ys))
after_both v0 v1 xs ys is =
    ap (λ v. after_operations v (operations ys)) is
    ∙ sym (fold-append after_operation v0 (operations xs) (operations ys))
    ∙ ap (after_operations v0) (sym (operations-append xs ys))

agree_both : (v0 v1 : Values) (xs ys : List Exchange) → Agrees v0 xs v1 → WrittenAgree v1 (operations ys) → WrittenAgree v0 (operations (xs ++ ys))
agree_both v0 v1 xs ys first second =
    subst (WrittenAgree v0) (sym (operations-append xs ys))
    (WrittenAgree-append v0 (operations xs) (operations ys) first.agree (subst (λ (v : Values). WrittenAgree v (operations ys)) first.values second))

-- one list behind another
pub Agrees-append : (v0 v1 v2 : Values) (xs ys : List Exchange) → Agrees v0 xs v1 → Agrees v1 ys v2 → Agrees v0 (xs ++ ys) v2
Agrees-append v0 v1 v2 xs ys first second = record {
  agree = agree_both v0 v1 xs ys first second.agree;
  values = second.values ∙ after_both v0 v1 xs ys first.values;
}

-- a difference behind commands that agree
pub FirstDifference-behind : (v0 v1 : Values) (xs ys : List Exchange) (place : ℕ) (written replayed : Outcome) → Agrees v0 xs v1 → FirstDifference v1 ys place written replayed → FirstDifference v0 (xs ++ ys) place written replayed
FirstDifference-behind v0 v1 xs ys place written replayed first d = record {
  before = xs ++ d.before;
  exchange = d.exchange;
  after = d.after;
  split = ap (λ more. xs ++ more) d.split ∙ sym (append_assoc xs d.before (d.exchange ∷ d.after));
  agree = agree_both v0 v1 xs d.before first d.agree;
  operation = d.operation;
  is_operation = d.is_operation;
  answered = d.answered;
  replays = d.replays ∙ ap (λ v. replayed_outcome v d.operation) (after_both v0 v1 xs d.before first.values);
  differs = d.differs;
}

-- a difference before further commands
pub FirstDifference-before : (v : Values) (xs ys : List Exchange) (place : ℕ) (written replayed : Outcome) → FirstDifference v xs place written replayed → FirstDifference v (xs ++ ys) place written replayed
FirstDifference-before v xs ys place written replayed d = record {
  before = d.before;
  exchange = d.exchange;
  after = d.after ++ ys;
  split = ap (λ more. more ++ ys) d.split ∙ append_assoc d.before (d.exchange ∷ d.after) ys;
  agree = d.agree;
  operation = d.operation;
  is_operation = d.is_operation;
  answered = d.answered;
  replays = d.replays;
  differs = d.differs;
}

-- a difference found between commands that agree and further ones
pub FirstDifference-between : (v0 v1 : Values) (xs ys rest whole : List Exchange) (place : ℕ) (written replayed : Outcome) → Agrees v0 xs v1 → FirstDifference v1 ys place written replayed → whole ≡ xs ++ (ys ++ rest) → FirstDifference v0 whole place written replayed
FirstDifference-between v0 v1 xs ys rest whole place written replayed first h split =
    let P : List Exchange → Type 0 = λ list. FirstDifference v0 list place written replayed in
    subst P (sym split)
    (FirstDifference-behind v0 v1 xs (ys ++ rest) place written replayed first
    (FirstDifference-before v1 ys rest place written replayed h))

-- ---- one command

-- a command that is no operation agrees, and leaves the map
pub no_operation : (values : Values) (exchange : Exchange) → operation_in exchange ≡ [] → Agrees values (exchange ∷ []) values
unfolding WrittenAgree
no_operation values exchange none =
    let list : [] ≡ operations (exchange ∷ []) = sym (ap (λ (l : List Operation). l ++ []) none) in
    record {
      agree = subst (WrittenAgree values) list tt;
      values = ap (after_operations values) list;
    }

-- the operation of a command, where it is one
work : (exchange : Exchange) (table key : List ℕ) (op : Op) → exchange.command ≡ Work table key op → operation_in exchange ≡ record { place = (table, key); op = op; outcome = outcome_of exchange } ∷ []
work exchange table key op is = ap (λ (command : Command). operation_by command (outcome_of exchange)) is

-- the outcome of an answer
outcome_from : Option (Outcome × ℕ) → Option Outcome
outcome_from answer = elim answer [ None ↦ None | Some given ↦ Some given.0 ]

written_is : (answer : Option (Outcome × ℕ)) (reply : Reply) → AnswerIs answer reply → (written : Outcome) → (elim answer as (λ _. Option Outcome) [ None ↦ None | Some given ↦ Some given.0 ]) ≡ Some written → written ≡ Done reply
written_is None reply is written h = absurd (cc)
written_is (Some given) reply is written h =
    let same : given.0 ≡ written = cc in
    sym same ∙ is given.0 given.1 refl

-- an operation whose answer was compared with its reply
pub operation_done : (before after : Values) (exchange : Exchange) (table key : List ℕ) (op : Op) (reply : Reply) → exchange.command ≡ Work table key op → reply ≡ plain_reply op (before (table, key))
    → ((other : Place) → after other ≡ updated before (table, key) (plain_value op (before (table, key))) other) → (found : Option Difference) → Tells exchange.answer reply found → Replays before (exchange ∷ []) after found
unfolding WrittenAgree
operation_done before after exchange table key op reply is is_reply changed None tells =
    let operation : Operation = record { place = (table, key); op = op; outcome = outcome_of exchange } in
    let list : operation ∷ [] ≡ operations (exchange ∷ []) = sym (ap (λ (l : List Operation). l ++ []) (work exchange table key op is)) in
    record {
      agree = subst (WrittenAgree before) list ((λ written h. written_is exchange.answer reply tells written h ∙ ap Done is_reply), tt);
      values = same_values after (after_operation before operation) changed ∙ ap (after_operations before) list;
    }
operation_done before after exchange table key op reply is is_reply changed (Some d) tells = record {
  before = [];
  exchange = exchange;
  after = [];
  split = refl;
  agree = tt;
  operation = record { place = (table, key); op = op; outcome = outcome_of exchange };
  is_operation = work exchange table key op is;
  answered = tells.answered;
  replays = tells.replays ∙ ap Done is_reply;
  differs = tells.differs;
}

by_command : (command : Command) (outcome : Option Outcome) → ((table key : List ℕ) (op : Op) → command ≡ Work table key op → ⊥) → operation_by command outcome ≡ []
by_command Begin outcome other = refl
by_command (Work table key op) outcome other = absurd (other table key op refl)
by_command Commit outcome other = refl
by_command Abort outcome other = refl

-- a command that is no operation
pub other_command : (values : Values) (exchange : Exchange) → ((table key : List ℕ) (op : Op) → exchange.command ≡ Work table key op → ⊥) → Agrees values (exchange ∷ []) values
other_command values exchange other = no_operation values exchange (by_command exchange.command (outcome_of exchange) other)

-- ---- one item of a list

split_at : {X : Type 0} (list : List X) (i : ℕ) (x : X) → i < length list → x ≡ get_or list i x → list ≡ take i list ++ (x ∷ drop (suc i) list)
split_at list i x below is = sym (take-append-drop i list) ∙ ap (λ more. take i list ++ more) (drop-cons list i x below ∙ ap (λ y. y ∷ drop (suc i) list) (sym is))

taken : {X : Type 0} (list : List X) (i : ℕ) (x : X) → i < length list → x ≡ get_or list i x → take (i + 1) list ≡ take i list ++ x ∷ []
taken list i x below is = take_more list i x below ∙ ap (λ y. take i list ++ y ∷ []) (sym is)

-- one more command agrees
pub command_agrees : (v0 v1 v2 : Values) (list : List Exchange) (i : ℕ) (x : Exchange) → i < length list → x ≡ get_or list i x → Agrees v0 (take i list) v1 → Agrees v1 (x ∷ []) v2 → Agrees v0 (take (i + 1) list) v2
command_agrees v0 v1 v2 list i x below is first one =
    subst (λ (commands : List Exchange). Agrees v0 commands v2) (sym (taken list i x below is)) (Agrees-append v0 v1 v2 (take i list) (x ∷ []) first one)

-- one more command differs
pub command_differs : (v0 v1 : Values) (list : List Exchange) (i : ℕ) (x : Exchange) (place : ℕ) (written replayed : Outcome) → i < length list → x ≡ get_or list i x → Agrees v0 (take i list) v1
    → FirstDifference v1 (x ∷ []) place written replayed → FirstDifference v0 list place written replayed
command_differs v0 v1 list i x place written replayed below is first one =
    FirstDifference-between v0 v1 (take i list) (x ∷ []) (drop (suc i) list) list place written replayed first one (split_at list i x below is)

-- the commands of one more member agree
pub member_agrees : (v0 v1 v2 : Values) (commands : Commands) (list : List TxnId) (i : ℕ) (d : TxnId) → i < length list → Agrees v0 (flat_map commands (take i list)) v1 → Agrees v1 (commands (get_or list i d)) v2
    → Agrees v0 (flat_map commands (take (i + 1) list)) v2
member_agrees v0 v1 v2 commands list i d below first one =
    let next : flat_map commands (take i list) ++ commands (get_or list i d) ≡ flat_map commands (take (i + 1) list) =
    ap (λ more. flat_map commands (take i list) ++ more) (sym (append-nil (commands (get_or list i d))))
    ∙ sym (flat_map-append commands (take i list) (get_or list i d ∷ []))
    ∙ ap (flat_map commands) (sym (take_more list i d below)) in
    subst (λ (all : List Exchange). Agrees v0 all v2) next (Agrees-append v0 v1 v2 (flat_map commands (take i list)) (commands (get_or list i d)) first one)

-- a command of one more member differs
pub member_differs : (v0 v1 : Values) (commands : Commands) (list : List TxnId) (i : ℕ) (d : TxnId) (place : ℕ) (written replayed : Outcome) → i < length list
    → Agrees v0 (flat_map commands (take i list)) v1 → FirstDifference v1 (commands (get_or list i d)) place written replayed → FirstDifference v0 (flat_map commands list) place written replayed
member_differs v0 v1 commands list i d place written replayed below first one =
    FirstDifference-between v0 v1 (flat_map commands (take i list)) (commands (get_or list i d)) (flat_map commands (drop (suc i) list)) (flat_map commands list) place written replayed first one
    (ap (flat_map commands) (sym (take-append-drop i list) ∙ ap (λ more. take i list ++ more) (drop-cons list i d below))
    ∙ flat_map-append commands (take i list) (get_or list i d ∷ drop (suc i) list))

-- ---- from the empty map

pub all_agree : (v0 v : Values) (commands : List Exchange) (found : Option Difference) → v0 ≡ no_values → found ≡ None → Replays v0 commands v found → WrittenAgree no_values (operations commands)
all_agree v0 v commands found empty none h =
    let P : Values → Type 0 = λ values. WrittenAgree values (operations commands) in
    let agrees : Agrees v0 commands v = subst (λ (o : Option Difference). Replays v0 commands v o) none h in
    subst P empty agrees.agree

pub first_differs : (v0 v : Values) (commands : List Exchange) (found : Option Difference) (d : Difference) → v0 ≡ no_values → found ≡ Some d → Replays v0 commands v found → FirstDifference no_values commands d.place d.written d.replayed
first_differs v0 v commands found d empty some h =
    let P : Values → Type 0 = λ values. FirstDifference values commands d.place d.written d.replayed in
    subst P empty (subst (λ (o : Option Difference). Replays v0 commands v o) some h)
