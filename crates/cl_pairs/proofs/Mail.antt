-- What is on its way, message by message.
use Rattle.std.proofs.Common.{◌≡◌, ℕ, true, false, eqb, ltb, Bool, ◌&&◌, List, [], ◌∷◌, ◌++◌, map, filter, All, refl, sym, ◌∙◌, ap, subst}
use Rattle.std.proofs.lemmas.Bool.{eqb-true, eq-eqb, and_parts, cond-true, cond-false, cond_both}
use Rattle.std.proofs.lemmas.List.{append-nil}
use Rattle.std.proofs.lemmas.List.Elements.{All-nil, All-cons, All-head, All-tail, All-append, All-map, filter-append}
use Rattle.cl_endpoint.specs.Laws.{contents_to}
use Rattle.cl_endpoint.specs.declared.limits.TheConstants.{ACTORS}
use Rattle.cl_log.specs.LogEntry.{LogEntry}
use Rattle.cl_runs.specs.Queues.{sent_to}
use Rattle.cl_steps.specs.declared.steps.Outgoing.{Outgoing}
use Rattle.cl_system.specs.Replicas.{Mail, with_mail, with_way}
use Rattle.cl_vnode.specs.Step.{log_message}
use Rattle.cl_wire.specs.Message.{Content}
use Rattle.cl_pairs.specs.Streams.{is_log_of, log_of}

-- the way whose head was taken off
pub on_way : (mail : Mail) (from to : ℕ) (contents : List Content) (giver receiver : ℕ) → mail from to ≡ contents → (eqb receiver to && eqb giver from) ≡ true →
    mail giver receiver ≡ contents
on_way mail from to contents giver receiver is here =
    let parts : (eqb receiver to ≡ true) × (eqb giver from ≡ true) = and_parts (eqb receiver to) (eqb giver from) here in
    ap (λ (n : ℕ). mail n receiver) (eqb-true giver from parts.1) ∙ ap (mail from) (eqb-true receiver to parts.0) ∙ is

-- ---- what holds of each message

module _ (P : ℕ → ℕ → Content → Type 0) (giver : ℕ) where
  -- of those for one actor
  for_one : (to : ℕ) (sends : List Outgoing) → All (λ send. P giver send.to send.payload) sends →
      All (λ send. P giver to send.payload) (filter (λ send. eqb send.to to) sends)
  for_one to [] are = All-nil (λ (send : Outgoing). P giver to send.payload)
  for_one to (send ∷ sends) are =
      let rest : List Outgoing = filter (λ send. eqb send.to to) sends in
      let Q : Outgoing → Type 0 = λ send. P giver to send.payload in
      let more : All Q rest = for_one to sends (All-tail (λ (s : Outgoing). P giver s.to s.payload) send sends are) in
      cond_both (eqb send.to to) (send ∷ rest) rest (All Q)
      (λ here. All-cons Q send rest
      (subst (λ n. P giver n send.payload) (eqb-true send.to to here) (All-head (λ (s : Outgoing). P giver s.to s.payload) send sends are)) more)
      (λ elsewhere. more)

  -- of what they contain
  for_one_contents : (to : ℕ) (sends : List Outgoing) → All (λ send. P giver send.to send.payload) sends → All (P giver to) (contents_to to sends)
  for_one_contents to sends are = All-map (P giver to) (λ (send : Outgoing). send.payload) (filter (λ send. eqb send.to to) sends) (for_one to sends are)

  -- of what one actor is sent
  sent_all : (to : ℕ) (sends : List Outgoing) → All (λ send. P giver send.to send.payload) sends → All (P giver to) (sent_to to sends)
  sent_all to sends are =
      cond_both (ltb to ACTORS) (contents_to to sends) [] (All (P giver to)) (λ actor. for_one_contents to sends are) (λ none. All-nil (P giver to))

  -- of what is on its way, once more was sent
  pub mailed_all : (mail : Mail) (sends : List Outgoing) (from to : ℕ) → All (P from to) (mail from to) → All (λ send. P giver send.to send.payload) sends →
      All (P from to) (with_mail mail giver sends from to)
  mailed_all mail sends from to are new =
      cond_both (eqb from giver) _ (mail from to) (All (P from to))
      (λ here. All-append (P from to) (mail from to) (sent_to to sends) are
      (subst (λ n. All (P n to) (sent_to to sends)) (sym (eqb-true from giver here)) (sent_all to sends new)))
      (λ elsewhere. are)

-- of what is on its way, once a head was taken off
pub popped_all : (P : Content → Type 0) (mail : Mail) (from to : ℕ) (content : Content) (rest : List Content) (giver receiver : ℕ) →
    mail from to ≡ content ∷ rest →
    All P (mail giver receiver) → All P (with_way mail from to rest giver receiver)
popped_all P mail from to content rest giver receiver waits are =
    cond_both (eqb receiver to && eqb giver from) rest (mail giver receiver) (All P)
    (λ here. All-tail P content rest (subst (All P) (on_way mail from to (content ∷ rest) giver receiver waits here) are))
    (λ elsewhere. are)

-- ---- the messages of one kind

module _ (is : Content → Bool) where
  -- there is none
  none_of : (contents : List Content) → All (λ content. is content ≡ false) contents → filter is contents ≡ []
  none_of [] none = refl
  none_of (content ∷ rest) none =
      cond-false (is content) _ _ (All-head (λ (c : Content). is c ≡ false) content rest none)
      ∙ none_of rest (All-tail (λ (c : Content). is c ≡ false) content rest none)

  -- none was sent
  pub mailed_none : (mail : Mail) (giver : ℕ) (sends : List Outgoing) (from to : ℕ) → All (λ send. is send.payload ≡ false) sends →
      filter is (with_mail mail giver sends from to) ≡ filter is (mail from to)
  mailed_none mail giver sends from to none =
      cond_both (eqb from giver) _ (mail from to) (λ (contents : List Content). filter is contents ≡ filter is (mail from to))
      (λ here. filter-append is (mail from to) (sent_to to sends)
      ∙ ap (λ (more : List Content). filter is (mail from to) ++ more)
      (none_of (sent_to to sends) (sent_all (λ from to content. is content ≡ false) giver to sends none))
      ∙ append-nil (filter is (mail from to)))
      (λ elsewhere. refl)

  -- the head that was taken off was none
  pub popped_none : (mail : Mail) (from to : ℕ) (content : Content) (rest : List Content) (giver receiver : ℕ) → mail from to ≡ content ∷ rest →
      is content ≡ false →
      filter is (with_way mail from to rest giver receiver) ≡ filter is (mail giver receiver)
  popped_none mail from to content rest giver receiver waits none =
      cond_both (eqb receiver to && eqb giver from) rest (mail giver receiver)
      (λ (contents : List Content). filter is contents ≡ filter is (mail giver receiver))
      (λ here. sym (ap (filter is) (on_way mail from to (content ∷ rest) giver receiver waits here) ∙ cond-false (is content) _ _ none))
      (λ elsewhere. refl)

-- what is left of the way whose head was taken off
pub popped_rest : (mail : Mail) (from to : ℕ) (rest : List Content) → with_way mail from to rest from to ≡ rest
popped_rest mail from to rest =
    cond-true (eqb to to && eqb from from) rest (mail from to)
    (ap (λ b. b && eqb from from) (eq-eqb to to refl) ∙ eq-eqb from from refl)

-- ---- what is shipped

module _ (standby v : ℕ) (others : List Outgoing) (none : All (λ send. is_log_of v send.payload ≡ false) others) where
  -- the log records among the contents for the standby
  shipped_contents : (news : List LogEntry) → filter (is_log_of v) (contents_to standby (map (log_message standby v) news ++ others)) ≡ map (log_of v) news
  shipped_contents [] =
      none_of (is_log_of v) (contents_to standby others) (for_one_contents (λ from to content. is_log_of v content ≡ false) v standby others none)
  shipped_contents (entry ∷ news) =
      ap (λ (sends : List Outgoing). filter (is_log_of v) (map (λ (send : Outgoing). send.payload) sends))
      (cond-true (eqb standby standby) _ _ (eq-eqb standby standby refl))
      ∙ cond-true (eqb v v) _ _ (eq-eqb v v refl)
      ∙ ap (λ (rest : List Content). log_of v entry ∷ rest) (shipped_contents news)

  -- the log records among what the standby is sent
  pub shipped_logs : (news : List LogEntry) → ltb standby ACTORS ≡ true →
      filter (is_log_of v) (sent_to standby (map (log_message standby v) news ++ others)) ≡ map (log_of v) news
  shipped_logs news actor = ap (filter (is_log_of v)) (cond-true (ltb standby ACTORS) _ _ actor) ∙ shipped_contents news
