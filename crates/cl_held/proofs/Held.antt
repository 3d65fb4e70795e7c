-- What is firm is held by both members of each virtual node.
use Rattle.std.proofs.Common.{◌≡◌, ℕ, zero, suc, ◌+◌, ◌%◌, ◌<◌, eqb, ltb, cond, Bool, true, false, ◌&&◌, ◌||◌, ◌⊎◌, inl, inr, List, [], ◌∷◌, ◌++◌, append_assoc, map, filter, length, Some, refl, sym, ◌∙◌, ap, subst, arith}
use Rattle.std.specs.List.{list_any}
use Rattle.std.proofs.lemmas.Bool.{and_parts, and_from, or_left, or_right, or_cases, eq-eqb, cond-true, cond-false, lt-ltb, ltb-true, ltb-false, cases_Bool}
use Rattle.std.proofs.lemmas.List.{map-append}
use Rattle.std.proofs.lemmas.List.Elements.{filter-append}
use Rattle.std.proofs.lemmas.List.Folds.{list_any-append}
use Rattle.cl_backup.specs.Decisions.{decisions_from}
use Rattle.cl_commit.specs.Laws.{AbortedStayOut}
use Rattle.cl_commit.specs.Standing.{is_report}
use Rattle.cl_control.specs.State.{ControlState}
use Rattle.cl_endpoint.specs.declared.limits.TheConstants.{ACTORS}
use Rattle.cl_endpoint.specs.Laws.{contents_to}
use Rattle.cl_ledger.specs.Laws.{IsOrderedRun, FirmRunsKeepOneOrder}
use Rattle.cl_log.proofs.Entries.{IsNumberedFrom-append, EachAfter-at}
use Rattle.cl_log.specs.declared.records.LogRec.{LogRec}
use Rattle.cl_log.specs.declared.records.LogRec.TheVariants as records
use Rattle.cl_log.specs.Kind.{txn_of, is_of, opens, is_prepared}
use Rattle.cl_log.specs.LogEntry.{LogEntry, IsNumberedFrom, EachAfter}
use Rattle.cl_log.specs.Open.{is_among, has_record, has_begun, has_prepared}
use Rattle.cl_node.specs.Addressing.{home_in}
use Rattle.cl_paired.proofs.Numbers.{later, later-all}
use Rattle.cl_paired.proofs.Seeing.{unsafe_later, at_once_seen, untold_seen}
use Rattle.cl_paired.proofs.Telling.{messages_from, messages_told}
use Rattle.cl_paired.specs.Paired.{unsafe_entries, untold}
use Rattle.cl_roster.specs.Roster.{IsClusterSize}
use Rattle.cl_runs.specs.Queues.{sent_to, QueueEvent}
use Rattle.cl_runs.specs.World.{Shape}
use Rattle.cl_serial.specs.Serial.{IsIn}
use Rattle.cl_steps.specs.declared.steps.Outgoing.{Outgoing}
use Rattle.cl_steps.specs.Steps.{sent}
use Rattle.cl_system.specs.Firm.{FirmWorld, firm_world_after}
use Rattle.cl_system.specs.Replicas.{own_primary}
use Rattle.cl_system.specs.Roles.{IsOfSession}
use Rattle.cl_types.proofs.PlacementLaws.{node_count-bounds}
use Rattle.cl_types.proofs.Transactions.{same_txn-true, same_txn-itself}
use Rattle.cl_types.specs.declared.operations.TxnId.{TxnId}
use Rattle.cl_types.specs.Transactions.{same_txn}
use Rattle.cl_vnode.specs.Replica.{ReplicaState}
use Rattle.cl_wire.specs.Message.{Content, Vote}
use Rattle.cl_pairs.proofs.Streams.{streams_after}
use Rattle.cl_pairs.proofs.Keeping.{IsStream}
use Rattle.cl_pairs.proofs.Logs.{counted-said}
use Rattle.cl_seen.specs.Laws.{IsSeen, PairRunsAreSeen}
use Rattle.cl_pairs.specs.Pairs.{PairWorld, pair_world_after, IsPairRun}
use Rattle.cl_node.specs.Members.{standby_node}
use Rattle.cl_seen.specs.Seen.{outward, to_tell, seen_events}
use Rattle.cl_held.specs.Held.{IsHeld}
use Rattle.cl_held.specs.Work.{is_work}
use Rattle.cl_held.specs.Laws.{PairsHold}
use Rattle.cl_held.proofs.Decisions.{decided_longer, own_from}
use Rattle.cl_held.proofs.Firm.{firm_tidy}
use Rattle.cl_held.proofs.Lives.{member_quiet}
use Rattle.cl_held.proofs.Members.{AreMembers, members_after}
use Rattle.cl_held.proofs.Tidy.{IsFresh, IsTidy, record_stays, record_behind, record_parts, record_one, opens_is_work}

-- ---- lists

-- two lists that make none are none
front_none : {X : Type 0} (xs ys : List X) → xs ++ ys ≡ [] → xs ≡ []
front_none [] ys none = refl
front_none (x ∷ xs) ys none = absurd (cc)

back_none : {X : Type 0} (xs ys : List X) → xs ++ ys ≡ [] → ys ≡ []
back_none [] ys none = none
back_none (x ∷ xs) ys none = absurd (cc)

-- where none passes, there is none that does
any_none : {X : Type 0} (p : X → Bool) (xs : List X) → filter p xs ≡ [] → list_any p xs ≡ true → ⊥
any_none p [] none any = let e : false ≡ true = any in cc
any_none p (x ∷ xs) none any = elim (cases_Bool (p x)) [
  | inl here ↦ let e : ◌≡◌ {A = List _} (x ∷ filter p xs) [] = sym (cond-true (p x) (x ∷ filter p xs) (filter p xs) here) ∙ none in cc
  | inr apart ↦ any_none p xs (sym (cond-false (p x) (x ∷ filter p xs) (filter p xs) apart) ∙ none) (sym (ap (λ b. b || list_any p xs) apart) ∙ any)
]

-- what is in a list stands somewhere in it
in_split : {X : Type 0} (xs : List X) (x : X) → IsIn xs x → (before : List X) × (after : List X) × (xs ≡ before ++ x ∷ after)
in_split [] x is = absurd (let none = is.1 in cc)
in_split (y ∷ xs) x (zero, is) = ([], xs, ap (λ z. z ∷ xs) (let one : Some y ≡ Some x = is in cc))
in_split (y ∷ xs) x (suc position, is) =
    let rest = in_split xs x (position, is) in
    (y ∷ rest.0, rest.1, ap (λ list. y ∷ list) rest.2)

-- what is in a list of two parts is in one of them
in_parts : {X : Type 0} (xs ys : List X) (x : X) → IsIn (xs ++ ys) x → IsIn xs x ⊎ IsIn ys x
in_parts [] ys x is = inr is
in_parts (y ∷ xs) ys x (zero, is) = inl (0, is)
in_parts (y ∷ xs) ys x (suc position, is) = elim (in_parts xs ys x (position, is)) [ inl here ↦ inl (suc here.0, here.1) | inr there ↦ inr there ]

-- ---- votes that are still to be told

module _ (v nodes : ℕ) (control : ControlState) (same_nodes : control.nodes ≡ nodes) (txn : TxnId) where
  -- what its home is told
  abbrev told_home : List LogEntry → List Content
  told_home entries = contents_to (home_in nodes txn) (messages_told own_primary v control entries)

  -- of two parts
  home_parts : (one other : List Outgoing) → contents_to (home_in nodes txn) (one ++ other) ≡ contents_to (home_in nodes txn) one ++ contents_to (home_in nodes txn) other
  home_parts one other =
      ap (map (λ (send : Outgoing). send.payload)) (filter-append (λ (send : Outgoing). eqb send.to (home_in nodes txn)) one other)
      ∙ map-append (λ (send : Outgoing). send.payload) (filter (λ (send : Outgoing). eqb send.to (home_in nodes txn)) one)
      (filter (λ (send : Outgoing). eqb send.to (home_in nodes txn)) other)

  -- its vote is among what is told of its Prepared
  own_told : (content : LogRec) → is_of txn content ≡ true → is_prepared content ≡ true →
      list_any (is_report v txn) (contents_to (home_in nodes txn) (messages_from own_primary v control content)) ≡ true
  own_told (records.Prepared other) own votes =
      let same : other ≡ txn = same_txn-true other txn own in
      let home : other.session % control.nodes ≡ home_in nodes txn = ap (λ (t : TxnId). t.session % control.nodes) same ∙ ap (λ n. txn.session % n) same_nodes in
      let report : is_report v txn (Vote v other) ≡ true = and_from (eqb v v) (same_txn txn other) (eq-eqb v v refl)
      (subst (λ t. same_txn txn t ≡ true) (sym same) (same_txn-itself txn)) in
      ap (λ b. list_any (is_report v txn) (map (λ (send : Outgoing). send.payload) (cond b (sent (other.session % control.nodes) (Vote v other) ∷ []) [])))
      (eq-eqb (other.session % control.nodes) (home_in nodes txn) home)
      ∙ or_left (is_report v txn (Vote v other)) false report
  own_told (records.Touch other table key mode) own votes = absurd (let e : false ≡ true = votes in cc)
  own_told (records.Set other table key before old new) own votes = absurd (let e : false ≡ true = votes in cc)
  own_told (records.Add other table key before amount) own votes = absurd (let e : false ≡ true = votes in cc)
  own_told (records.Comp other table key before undone form) own votes = absurd (let e : false ≡ true = votes in cc)
  own_told (records.End other commit) own votes = absurd (let e : false ≡ true = votes in cc)
  own_told (records.Decide other) own votes = absurd (let e : false ≡ true = votes in cc)

  -- so it is told of records that have one
  vote_told : (entries : List LogEntry) → has_record is_prepared txn entries ≡ true → list_any (is_report v txn) (told_home entries) ≡ true
  vote_told [] has = absurd (let e : false ≡ true = has in cc)
  vote_told (entry ∷ entries) has =
      let first : List Outgoing = messages_from own_primary v control entry.content in
      let others : List Outgoing = messages_told own_primary v control entries in
      ap (list_any (is_report v txn)) (home_parts first others)
      ∙ list_any-append (is_report v txn) (contents_to (home_in nodes txn) first) (told_home entries)
      ∙ elim (or_cases (is_of txn entry.content && is_prepared entry.content) (has_record is_prepared txn entries) has) [
        | inl here ↦ or_left (list_any (is_report v txn) (contents_to (home_in nodes txn) first)) (list_any (is_report v txn) (told_home entries))
            (own_told entry.content (and_parts (is_of txn entry.content) (is_prepared entry.content) here).0 (and_parts (is_of txn entry.content) (is_prepared entry.content) here).1)
        | inr there ↦ or_right (list_any (is_report v txn) (contents_to (home_in nodes txn) first)) (list_any (is_report v txn) (told_home entries)) (vote_told entries there)
      ]

-- ---- a run

module _ (order : FirmRunsKeepOneOrder) (out : AbortedStayOut) (seen_so : PairRunsAreSeen) (shape : Shape) (events : List QueueEvent)
    (size : IsClusterSize shape.nodes shape.spares) (run : IsPairRun shape events) where
  abbrev pairs : PairWorld
  pairs = pair_world_after shape events

  abbrev firm : FirmWorld
  firm = firm_world_after shape (seen_events shape events)

  seen : IsSeen shape events
  seen = seen_so shape events size run

  ordered : IsOrderedRun shape (seen_events shape events)
  ordered = order shape (seen_events shape events) size seen.firm

  members : AreMembers shape pairs
  members = members_after order seen_so shape size events run

  -- primary and standby
  stream : (v : ℕ) → IsStream shape.nodes v (pairs.primaries v) (pairs.standbys v) (pairs.mail v (standby_node shape.nodes v)) (pairs.mail (standby_node shape.nodes v) v)
  stream v = (streams_after shape size.counted events).streams v

  -- a primary's log is that of the firm system
  same_log : (v : ℕ) → v < shape.nodes → (firm.world.replicas v).part.log ≡ (pairs.primaries v).part.log
  same_log v below =
      ap (λ (one : ReplicaState). one.part.log) (sym (seen.replicas v below) ∙ at_once_seen own_primary (pairs.primaries v) (seen.paired v below))

  -- so it is tidy
  tidy : (v : ℕ) → v < shape.nodes → IsTidy shape.nodes v firm.world.history (pairs.primaries v).part.log
  tidy v below = subst (IsTidy shape.nodes v firm.world.history) (same_log v below) (firm_tidy order out shape size (seen_events shape events) seen.firm v below)

  -- its controller knows the nodes
  same_nodes : (v : ℕ) → v < shape.nodes → (pairs.primaries v).control.nodes ≡ shape.nodes
  same_nodes v below =
      ap (λ (one : ReplicaState). one.control.nodes) (sym (at_once_seen own_primary (pairs.primaries v) (seen.paired v below)) ∙ seen.replicas v below)
      ∙ (ordered.sound.places.replicas v below).same_nodes

  module _ (txn : TxnId) (member : is_among txn pairs.history ≡ true) where
    -- it was decided
    decided : is_among txn firm.world.history ≡ true
    decided = ordered.ledger.decided txn (ap (is_among txn) (sym seen.history) ∙ member)

    -- where a standby has its decision
    abbrev place : ℕ
    place = (members.held txn member).0

    -- that is in its log
    at_place : is_among txn (decisions_from [] (pairs.standbys place).part.log) ≡ true
    at_place = ap (is_among txn) (sym (stream place).standby_said.decided) ∙ (members.held txn member).1

    -- there is such a virtual node
    place_below : place < shape.nodes
    place_below = elim (cases_Bool (ltb place shape.nodes)) [
      | inl below ↦ ltb-true place shape.nodes below
      | inr over ↦ (
          let none : (pairs.standbys place).part.log ≡ [] =
          front_none (pairs.standbys place).part.log (stream place).way (sym (stream place).logs ∙ members.beyond place (ltb-false place shape.nodes over)) in
          absurd (let e : false ≡ true = ap (λ log. is_among txn (decisions_from [] log)) (sym none) ∙ at_place in cc))
    ]

    -- the primary has it too
    at_primary_place : is_among txn (decisions_from [] (pairs.primaries place).part.log) ≡ true
    at_primary_place =
        ap (λ log. is_among txn (decisions_from [] log)) (stream place).logs ∙ decided_longer [] txn (pairs.standbys place).part.log (stream place).way at_place

    -- and it is the home of the transaction, which is of a session
    own : (home_in shape.nodes txn ≡ place) × IsOfSession txn
    own = own_from shape.nodes place [] (pairs.primaries place).part.log (λ t none. absurd (let e : false ≡ true = none in cc)) (tidy place place_below).homes txn at_primary_place

    module _ (v : ℕ) (below : v < shape.nodes) where
      abbrev primary : ReplicaState
      primary = pairs.primaries v

      -- what is not acknowledged has all that is on its way
      unsafe_parts : unsafe_entries primary ≡ later primary.modes.acked (pairs.standbys v).part.log ++ (stream v).way
      unsafe_parts =
          let is = stream v in
          let numbered : IsNumberedFrom 1 ((pairs.standbys v).part.log ++ is.way) =
          subst (IsNumberedFrom 1) is.logs (counted-said primary.part primary.decisions is.primary_said).numbered in
          let next = (counted-said (pairs.standbys v).part (pairs.standbys v).decisions is.standby_said).next in
          let acked = is.acked in
          unsafe_later primary (seen.paired v below)
          ∙ ap (later primary.modes.acked) is.logs
          ∙ filter-append (λ (entry : LogEntry). ltb primary.modes.acked entry.number) (pairs.standbys v).part.log is.way
          ∙ ap (λ list. later primary.modes.acked (pairs.standbys v).part.log ++ list)
          (later-all primary.modes.acked (1 + length (pairs.standbys v).part.log) is.way (omega (arith, next, acked))
          (IsNumberedFrom-append 1 (pairs.standbys v).part.log is.way numbered).1)

      -- to its home it has no vote of the transaction to tell
      untold_quiet : filter (is_report v txn) (contents_to (home_in shape.nodes txn) (untold own_primary primary)) ≡ []
      untold_quiet =
          let home : ℕ = home_in shape.nodes txn in
          let bounds = node_count-bounds shape.nodes size.counted in
          let home_below : home < shape.nodes = subst (λ n. n < shape.nodes) (sym own.0) place_below in
          let quiet : filter (is_report v txn) (firm.world.mail v home) ≡ [] =
          member_quiet shape firm.world txn (ordered.commits.lives txn own.1) v below decided in
          let parts : filter (is_report v txn) (outward (pairs.mail v home)) ++ filter (is_report v txn) (to_tell shape.nodes pairs v home) ≡ [] =
          sym (filter-append (is_report v txn) (outward (pairs.mail v home)) (to_tell shape.nodes pairs v home)) ∙ ap (filter (is_report v txn)) (sym (seen.mail v home)) ∙ quiet in
          ap (filter (is_report v txn))
          (sym (cond-true (ltb v shape.nodes) (sent_to home (untold own_primary primary)) [] (lt-ltb v shape.nodes below)
          ∙ cond-true (ltb home ACTORS) (contents_to home (untold own_primary primary)) [] (lt-ltb home ACTORS (omega (arith, bounds.1, home_below)))))
          ∙ back_none (filter (is_report v txn) (outward (pairs.mail v home))) (filter (is_report v txn) (to_tell shape.nodes pairs v home)) parts

      -- so no vote of it is on its way to the standby
      way_unvoted : has_record is_prepared txn (stream v).way ≡ true → ⊥
      way_unvoted votes =
          let unsafe : has_record is_prepared txn (unsafe_entries primary) ≡ true =
          ap (has_record is_prepared txn) unsafe_parts
          ∙ record_behind is_prepared txn (later primary.modes.acked (pairs.standbys v).part.log) (stream v).way votes in
          let told : list_any (is_report v txn) (contents_to (home_in shape.nodes txn) (messages_told own_primary v primary.control (unsafe_entries primary))) ≡ true =
          vote_told v shape.nodes primary.control (same_nodes v below) txn (unsafe_entries primary) unsafe in
          let same : untold own_primary primary ≡ messages_told own_primary v primary.control (unsafe_entries primary) =
          untold_seen own_primary primary (seen.paired v below) ∙ ap (λ n. messages_told own_primary n primary.control (unsafe_entries primary)) (stream v).own in
          any_none (is_report v txn) (contents_to (home_in shape.nodes txn) (untold own_primary primary)) untold_quiet
          (ap (λ sends. list_any (is_report v txn) (contents_to (home_in shape.nodes txn) sends)) same ∙ told)

      module _ (entry : LogEntry) (owns : is_of txn entry.content ≡ true) (works : is_work entry.content ≡ true) where
        -- nor is other work of it
        way_idle : (before after : List LogEntry) → (stream v).way ≡ before ++ entry ∷ after → ⊥
        unfolding has_begun has_prepared
        way_idle before after here =
            let log : List LogEntry = (pairs.standbys v).part.log in
            let whole : primary.part.log ≡ (log ++ before) ++ entry ∷ after =
            (stream v).logs ∙ ap (λ way. log ++ way) here ∙ sym (append_assoc log before (entry ∷ after)) in
            let begun : has_record opens txn primary.part.log ≡ true =
            ap (has_record opens txn) whole
            ∙ record_behind opens txn (log ++ before) (entry ∷ after) (record_one opens txn entry after owns (opens_is_work entry.content ∙ works)) in
            let voted : has_record is_prepared txn (log ++ (stream v).way) ≡ true =
            ap (has_record is_prepared txn) (sym (stream v).logs) ∙ (tidy v below).voted txn own.1 decided begun in
            let fresh : has_record is_prepared (txn_of entry.content) (log ++ before) ≡ false =
            EachAfter-at IsFresh (log ++ before) entry after (subst (EachAfter IsFresh []) whole (tidy v below).fresh) works in
            let none : has_record is_prepared txn (log ++ before) ≡ false =
            ap (λ t. has_record is_prepared t (log ++ before)) (sym (same_txn-true (txn_of entry.content) txn owns)) ∙ fresh in
            elim (record_parts is_prepared txn log (stream v).way voted) [
              | inl early ↦ let e : true ≡ false = sym (record_stays is_prepared txn log before early) ∙ none in cc
              | inr late ↦ way_unvoted late
            ]

        -- so what the primary has of it, the standby has
        work_held : IsIn primary.part.log entry → IsIn (pairs.standbys v).part.log entry
        work_held is = elim (in_parts (pairs.standbys v).part.log (stream v).way entry (subst (λ log. IsIn log entry) (stream v).logs is)) [
          | inl there ↦ there
          | inr waits ↦ (let split = in_split (stream v).way entry waits in absurd (way_idle split.0 split.1 split.2))
        ]

    -- it is held
    held : IsHeld shape pairs txn
    held = record {
      at_primary = subst (λ n. is_among txn (pairs.primaries n).decisions ≡ true) (sym own.0) (ap (is_among txn) (stream place).primary_said.decided ∙ at_primary_place);
      at_standby = subst (λ n. is_among txn (pairs.standbys n).decisions ≡ true) (sym own.0) (members.held txn member).1;
      work = λ v entry below is both.
          let parts = and_parts (is_of txn entry.content) (is_work entry.content) both in
          work_held v below entry parts.0 parts.1 is;
    }

-- so it is after every run
pub pairs_hold : FirmRunsKeepOneOrder → AbortedStayOut → PairRunsAreSeen → PairsHold
pairs_hold order out seen_so shape events size run txn member = held order out seen_so shape events size run txn member
