-- What is told once records are safe, in closed form.
use Rattle.std.proofs.Common.{◌≡◌, ℕ, ◌+◌, ◌%◌, ◌<◌, ◌≤◌, Bool, true, false, List, [], ◌∷◌, ◌++◌, length, get_or, map, flat_map, fold, All, nat_le, nat_lt, Option, Some, None, option_map, refl, sym, ap, ◌∙◌, subst, append_assoc, arith}
use Rattle.std.specs.List.{IsDistinct}
use Rattle.std.specs.Option.{option_map_or}
use Rattle.std.proofs.lemmas.Bool.{true≢false, or_parts, cond-true, cond-false, le-leb, le-ltb, lt-leb, lt-ltb}
use Rattle.std.proofs.lemmas.List.{append-nil}
use Rattle.std.proofs.lemmas.List.Elements.{All-nil, All-cons, All-head, All-tail, All-weaker, All-append}
use Rattle.cl_types.specs.declared.answers.Outcome.{Outcome as Said}
use Rattle.cl_types.specs.declared.answers.Outcome.TheVariants.{Committed}
use Rattle.cl_types.specs.declared.operations.TxnId.{TxnId}
use Rattle.cl_types.specs.Transactions.{same_txn}
use Rattle.cl_log.specs.declared.records.LogRec.{LogRec}
use Rattle.cl_log.specs.declared.records.LogRec.TheVariants as records
use Rattle.cl_log.specs.LogEntry.{LogEntry, IsNumberedFrom}
use Rattle.cl_control.specs.declared.acts.Act.{Act}
use Rattle.cl_control.specs.declared.acts.Act.TheVariants as acts
use Rattle.cl_control.specs.declared.entry.Phase.{Phase}
use Rattle.cl_control.specs.declared.entry.Phase.TheVariants.{Idle, Asked, Preparing, Decided, Logged}
use Rattle.cl_control.specs.declared.entry.Told.{Told}
use Rattle.cl_control.specs.Calls.{finishes, committed_acts, acts_of_told, up_to, above, is_told, without_told, safe_acts, after_safe}
use Rattle.cl_control.specs.State.{Entry, ControlState, ascending, entry_of, phase_of, participants_of}
use Rattle.cl_control.proofs.Entries.{without_told-nil}
use Rattle.cl_control.proofs.Waiters.{filter-each, filter-none}
use Rattle.cl_steps.specs.declared.steps.Outgoing.{Outgoing}
use Rattle.cl_steps.specs.Steps.{sent}
use Rattle.cl_wire.specs.Message.{Vote}
use Rattle.cl_vnode.specs.Inputs.{is_decide, has_decide}
use Rattle.cl_vnode.specs.Step.{Stepped, with_control, performed, all_performed, home_of, told, entry_told}
use Rattle.cl_lone.specs.Lone.{message_of, messages_of}
use Rattle.cl_paired.specs.Paired.{told_of, tolds_of}
use Rattle.cl_paired.proofs.Filters.{found-kept, stays, stays-apart, without_told-append, named, distinct-right, distinct-apart}
use Rattle.cl_paired.proofs.Numbers.{tolds-within}

-- ---- acts without a Decide

-- more messages were sent
abbrev pub with_messages : Stepped → List Outgoing → Stepped
with_messages done messages = record done { step = record done.step { sends = done.step.sends ++ messages } }

-- an act that is no Decide is its message
performed_one : (primary : ℕ → ℕ) (done : Stepped) (act : Act) → is_decide act ≡ false →
    performed primary done act ≡ with_messages done (message_of primary act)
unfolding performed
performed_one primary done (acts.Ask v txn number table key op) none = refl
performed_one primary done (acts.Prepare v txn) none = refl
performed_one primary done (acts.Finish v txn commit) none = refl
performed_one primary done (acts.Decide txn) none = absurd (true≢false none)
performed_one primary done (acts.Say txn number outcome) none = refl

-- their messages are sent, and the replica stays
pub all_sent : (primary : ℕ → ℕ) (done : Stepped) (list : List Act) → has_decide list ≡ false →
    all_performed primary done list ≡ with_messages done (messages_of primary list)
all_sent primary done [] none = ap (λ (ms : List Outgoing). record done { step = record done.step { sends = ms } }) (sym (append-nil done.step.sends))
all_sent primary done (act ∷ list) none =
    let parts = or_parts (is_decide act) (has_decide list) none in
    ap (λ (d : Stepped). all_performed primary d list) (performed_one primary done act parts.0)
    ∙ all_sent primary (with_messages done (message_of primary act)) list parts.1
    ∙ ap (λ (ms : List Outgoing). record done { step = record done.step { sends = ms } })
    (append_assoc done.step.sends (message_of primary act) (messages_of primary list))

-- among the ends and what is said is no Decide
none_in_finishes : (txn : TxnId) (commit : Bool) (number : ℕ) (outcome : Said) (vs : List ℕ) →
    has_decide (map (λ v. acts.Finish v txn commit) vs ++ acts.Say txn number outcome ∷ []) ≡ false
none_in_finishes txn commit number outcome [] = refl
none_in_finishes txn commit number outcome (v ∷ vs) = none_in_finishes txn commit number outcome vs

-- the end of a transaction is told without a Decide
pub ends_are_sent : (control : ControlState) (txn : TxnId) (commit : Bool) (number : ℕ) (outcome : Said) →
    has_decide (finishes control txn commit ++ acts.Say txn number outcome ∷ []) ≡ false
ends_are_sent control txn commit number outcome = none_in_finishes txn commit number outcome (ascending control.nodes (participants_of control txn))

-- nor among the acts of a commit
committed_are_sent : (control : ControlState) (txn : TxnId) (phase : Option Phase) → has_decide (committed_acts control txn phase) ≡ false
committed_are_sent control txn (Some (Logged number)) = ends_are_sent control txn true number Committed
committed_are_sent control txn (Some Idle) = refl
committed_are_sent control txn (Some (Asked number v)) = refl
committed_are_sent control txn (Some (Preparing number)) = refl
committed_are_sent control txn (Some (Decided number)) = refl
committed_are_sent control txn None = refl

-- ---- what a record tells

-- what a controller makes of a record of its virtual node, once it is safe
abbrev pub messages_from : (ℕ → ℕ) → ℕ → ControlState → LogRec → List Outgoing
messages_from primary v control (records.Prepared txn) = sent (primary (home_of control txn)) (Vote v txn) ∷ []
messages_from primary v control (records.Decide txn) = messages_of primary (committed_acts control txn (phase_of control txn))
messages_from primary v control content = []

-- and of entries, in order
abbrev pub messages_told : (ℕ → ℕ) → ℕ → ControlState → List LogEntry → List Outgoing
messages_told primary v control entries = flat_map (λ entry. messages_from primary v control entry.content) entries

-- two controllers of which one finds this transaction as the other does
abbrev pub FindAlike : ControlState → ControlState → Told → Type 0
FindAlike one other told = entry_of one told.txn ≡ entry_of other told.txn

-- the acts of a commit are by how the transaction is found
committed_alike : (one other : ControlState) (txn : TxnId) → one.nodes ≡ other.nodes → entry_of one txn ≡ entry_of other txn → (phase : Option Phase) →
    committed_acts one txn phase ≡ committed_acts other txn phase
committed_alike one other txn nodes same (Some (Logged number)) =
    ap (λ (count : ℕ). map (λ (v : ℕ). acts.Finish v txn true) (ascending count (participants_of one txn)) ++ acts.Say txn number Committed ∷ []) nodes
    ∙ ap (λ (o : Option Entry). map (λ (v : ℕ). acts.Finish v txn true)
    (ascending other.nodes (option_map_or (λ (x : Entry). x.participants) o [])) ++ acts.Say txn number Committed ∷ []) same
committed_alike one other txn nodes same (Some Idle) = refl
committed_alike one other txn nodes same (Some (Asked number v)) = refl
committed_alike one other txn nodes same (Some (Preparing number)) = refl
committed_alike one other txn nodes same (Some (Decided number)) = refl
committed_alike one other txn nodes same None = refl

-- they tell the same of a commit
acts_alike : (one other : ControlState) (txn : TxnId) → one.nodes ≡ other.nodes → entry_of one txn ≡ entry_of other txn →
    committed_acts one txn (phase_of one txn) ≡ committed_acts other txn (phase_of other txn)
acts_alike one other txn nodes same =
    committed_alike one other txn nodes same (phase_of one txn)
    ∙ ap (λ (o : Option Entry). committed_acts other txn (option_map (λ (x : Entry). x.phase) o)) same

-- they tell the same of one record
from_alike : (primary : ℕ → ℕ) (v : ℕ) (one other : ControlState) → one.nodes ≡ other.nodes → (number : ℕ) (content : LogRec) →
    All (FindAlike one other) (told_of number content) → messages_from primary v one content ≡ messages_from primary v other content
from_alike primary v one other nodes number (records.Prepared txn) same = ap (λ (count : ℕ). sent (primary (txn.session % count)) (Vote v txn) ∷ []) nodes
from_alike primary v one other nodes number (records.Decide txn) same =
    ap (messages_of primary) (acts_alike one other txn nodes (All-head (FindAlike one other) (record { number = number; txn = txn }) [] same))
from_alike primary v one other nodes number content same = refl

-- what holds of all holds of both parts
All-parts : {X : Type 0} (P : X → Type 0) (xs ys : List X) → All P (xs ++ ys) → All P xs × All P ys
All-parts P [] ys all = (All-nil P, all)
All-parts P (x ∷ xs) ys all =
    let rest = All-parts P xs ys (All-tail P x (xs ++ ys) all) in
    (All-cons P x xs (All-head P x (xs ++ ys) all) rest.0, rest.1)

-- two controllers that find each transaction alike of which a Decide is among the entries tell the same
pub told_alike : (primary : ℕ → ℕ) (v : ℕ) (one other : ControlState) (entries : List LogEntry) → one.nodes ≡ other.nodes →
    All (FindAlike one other) (tolds_of entries) →
    messages_told primary v one entries ≡ messages_told primary v other entries
told_alike primary v one other [] nodes same = refl
told_alike primary v one other (entry ∷ entries) nodes same =
    let parts = All-parts (FindAlike one other) (told_of entry.number entry.content) (tolds_of entries) same in
    ap (λ (ms : List Outgoing). ms ++ messages_told primary v one entries) (from_alike primary v one other nodes entry.number entry.content parts.0)
    ∙ ap (λ (ms : List Outgoing). messages_from primary v other entry.content ++ ms) (told_alike primary v one other entries nodes parts.1)

-- ---- one record is told

-- a replica after some were told: these wait still
abbrev pub with_told : Stepped → List Told → List Told → List Outgoing → Stepped
with_told done tolds rest messages = with_messages
    (with_control done (record done.state.control { transactions = without_told tolds done.state.control.transactions; waiting = rest })) messages

module _ (primary : ℕ → ℕ) (done : Stepped) where
  -- no Decide is told
  none_told : (rest : List Told) → done.state.control.waiting ≡ rest → (messages : List Outgoing) →
      with_messages done messages ≡ with_told done [] rest messages
  none_told rest waiting messages =
      ap (λ (entries : List Entry). with_messages (with_control done (record done.state.control { transactions = entries })) messages)
      (sym (without_told-nil done.state.control.transactions))
      ∙ ap (λ (tolds : List Told). with_messages (with_control done
      (record done.state.control { transactions = without_told [] done.state.control.transactions; waiting = tolds })) messages) waiting

  module _ (number : ℕ) (txn : TxnId) (rest : List Told) (waiting : done.state.control.waiting ≡ record { number = number; txn = txn } ∷ rest)
      (later : All (λ told. number < told.number) rest) where
    abbrev this : Told
    this = record { number = number; txn = txn }

    -- exactly the first is safe
    is_safe : up_to number done.state.control.waiting ≡ this ∷ []
    is_safe =
        ap (up_to number) waiting ∙ cond-true (nat_le number number) (this ∷ up_to number rest) (up_to number rest) (le-leb number number (omega arith))
        ∙ ap (λ (tolds : List Told). this ∷ tolds) (filter-none (λ told. nat_le told.number number) rest
        (All-weaker (λ told. number < told.number) (λ told. nat_le told.number number ≡ false) (λ told h. lt-leb told.number number h) rest later))

    -- and the rest waits
    is_left : above number done.state.control.waiting ≡ rest
    is_left =
        ap (above number) waiting ∙ cond-false (nat_lt number number) (this ∷ above number rest) (above number rest) (le-ltb number number (omega arith))
        ∙ filter-each (λ told. nat_lt number told.number) rest
        (All-weaker (λ told. number < told.number) (λ told. nat_lt number told.number ≡ true) (λ told h. lt-ltb number told.number h) rest later)

    -- the first one that waits is told
    decide_told : told primary done number (records.Decide txn)
        ≡ with_told done (this ∷ []) rest (messages_of primary (committed_acts done.state.control txn (phase_of done.state.control txn)))
    unfolding told after_safe safe_acts
    decide_told =
        let control : ControlState = done.state.control in
        let list : List Act = committed_acts control txn (phase_of control txn) in
        ap (λ (tolds : List Told). all_performed primary (with_control done
        (record control { transactions = without_told tolds control.transactions; waiting = above number control.waiting }))
        (flat_map (acts_of_told control) tolds)) is_safe
        ∙ ap (λ (tolds : List Told). all_performed primary (with_control done
        (record control { transactions = without_told (this ∷ []) control.transactions; waiting = tolds })) (list ++ [])) is_left
        ∙ ap (all_performed primary (with_control done (record control { transactions = without_told (this ∷ []) control.transactions; waiting = rest })))
        (append-nil list)
        ∙ all_sent primary (with_control done (record control { transactions = without_told (this ∷ []) control.transactions; waiting = rest })) list
        (committed_are_sent control txn (phase_of control txn))

  -- nothing is told
  plain_told : (rest : List Told) → done.state.control.waiting ≡ rest → done ≡ with_told done [] rest []
  plain_told rest waiting =
      ap (λ (ms : List Outgoing). record done { step = record done.step { sends = ms } }) (sym (append-nil done.step.sends)) ∙ none_told rest waiting []

  -- a record is told, where its Decide, if it is one, is the first that waits
  tell_one : (base : ControlState) → done.state.control.nodes ≡ base.nodes → (number : ℕ) (content : LogRec) (rest : List Told) →
      done.state.control.waiting ≡ told_of number content ++ rest →
      All (λ told. number < told.number) rest → All (FindAlike done.state.control base) (told_of number content) →
      told primary done number content ≡ with_told done (told_of number content) rest (messages_from primary done.state.v base content)
  unfolding told
  tell_one base nodes number (records.Prepared txn) rest waiting later same =
      none_told rest waiting (sent (primary (home_of done.state.control txn)) (Vote done.state.v txn) ∷ [])
      ∙ ap (λ (count : ℕ). with_told done [] rest (sent (primary (txn.session % count)) (Vote done.state.v txn) ∷ [])) nodes
  tell_one base nodes number (records.Decide txn) rest waiting later same =
      decide_told number txn rest waiting later
      ∙ ap (λ (list : List Act). with_told done (record { number = number; txn = txn } ∷ []) rest (messages_of primary list))
      (acts_alike done.state.control base txn nodes (All-head (FindAlike done.state.control base) (record { number = number; txn = txn }) [] same))
  tell_one base nodes number content rest waiting later same = plain_told rest waiting

-- ---- entries are told

-- two parts that were told one after the other
told-twice : (done : Stepped) (tolds others mid rest : List Told) (first second : List Outgoing) →
    with_told (with_told done tolds mid first) others rest second ≡ with_told done (tolds ++ others) rest (first ++ second)
told-twice done tolds others mid rest first second =
    ap (λ (entries : List Entry). record {
      state = record done.state { control = record done.state.control { transactions = entries; waiting = rest } };
      step = record done.step { sends = (done.step.sends ++ first) ++ second };
    }) (sym (without_told-append tolds others done.state.control.transactions))
    ∙ ap (λ (ms : List Outgoing). record {
      state = record done.state {
        control = record done.state.control { transactions = without_told (tolds ++ others) done.state.control.transactions; waiting = rest };
      };
      step = record done.step { sends = ms };
    }) (append_assoc done.step.sends first second)

-- the entries are told whose Decides are the first that wait: what is sent is what a controller tells that finds their transactions alike
pub tell_entries : (primary : ℕ → ℕ) (base : ControlState) (done : Stepped) (first : ℕ) (entries : List LogEntry) (rest : List Told) →
    done.state.control.nodes ≡ base.nodes →
    IsNumberedFrom first entries → done.state.control.waiting ≡ tolds_of entries ++ rest → All (λ told. first + length entries ≤ told.number) rest →
    IsDistinct same_txn (named (tolds_of entries ++ rest)) → All (FindAlike done.state.control base) (tolds_of entries) →
    fold (entry_told primary) done entries ≡ with_told done (tolds_of entries) rest (messages_told primary done.state.v base entries)
tell_entries primary base done first [] rest nodes numbered waiting behind distinct same = plain_told primary done rest waiting
tell_entries primary base done first (entry ∷ entries) rest nodes numbered waiting behind distinct same =
    let tolds : List Told = told_of entry.number entry.content in
    let others : List Told = tolds_of entries ++ rest in
    let alike = All-parts (FindAlike done.state.control base) tolds (tolds_of entries) same in
    let regroup : (tolds ++ tolds_of entries) ++ rest ≡ tolds ++ others = append_assoc tolds (tolds_of entries) rest in
    let apart_names : IsDistinct same_txn (named (tolds ++ others)) = subst (λ ts. IsDistinct same_txn (named ts)) regroup distinct in
    let later : All (λ told. entry.number < told.number) others =
    All-append (λ told. entry.number < told.number) (tolds_of entries) rest
    (All-weaker (λ told. (first + 1 ≤ told.number) × (told.number < first + 1 + length entries)) (λ told. entry.number < told.number)
    (λ told h. omega (arith, h.0, numbered.0)) (tolds_of entries)
    (tolds-within (first + 1) entries numbered.1))
    (All-weaker (λ told. first + length (entry ∷ entries) ≤ told.number) (λ told. entry.number < told.number) (λ told h. omega (arith, h, numbered.0))
    rest behind) in
    let apart : All (λ told. is_told told.txn tolds ≡ false) (tolds_of entries) =
    (All-parts (λ told. is_told told.txn tolds ≡ false) (tolds_of entries) rest (distinct-apart tolds others apart_names)).0 in
    let next : Stepped = with_told done tolds others (messages_from primary done.state.v base entry.content) in
    let found : All (FindAlike next.state.control base) (tolds_of entries) =
    λ k d h. found-kept (get_or (tolds_of entries) k d).txn (stays tolds) done.state.control.transactions
    (stays-apart (get_or (tolds_of entries) k d).txn tolds (apart k d h)) ∙ alike.1 k d h in
    ap (λ (d : Stepped). fold (entry_told primary) d entries)
    (tell_one primary done base nodes entry.number entry.content others (waiting ∙ regroup) later alike.0)
    ∙ tell_entries primary base next (first + 1) entries rest nodes numbered.1 refl
    (All-weaker (λ told. first + length (entry ∷ entries) ≤ told.number) (λ told. first + 1 + length entries ≤ told.number) (λ told h. omega (arith, h))
    rest behind)
    (distinct-right tolds others apart_names) found
    ∙ told-twice done tolds (tolds_of entries) others rest (messages_from primary done.state.v base entry.content)
    (messages_told primary done.state.v base entries)
