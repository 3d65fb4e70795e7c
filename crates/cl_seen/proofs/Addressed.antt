-- Each message on its way goes between the actors that its kind names.
use Rattle.std.proofs.Common.{◌≡◌, ℕ, Bool, true, false, List, [], ◌∷◌, All, refl, subst}
use Rattle.std.proofs.lemmas.List.Elements.{All-nil, All-cons, All-head, All-tail}
use Rattle.cl_pairs.proofs.Keeping.{IsBetween}
use Rattle.cl_seen.proofs.Beside.{IsInternalBelow}
use Rattle.cl_seen.proofs.Lists.{outward_one, outward_none}
use Rattle.cl_seen.specs.Seen.{is_internal, outward}
use Rattle.cl_seen.specs.Ways.{IsPairAddressed}
use Rattle.cl_system.specs.Roles.{IsAddressed}
use Rattle.cl_wire.specs.Message.{Content, Log, LogAck}

module _ (nodes from to : ℕ) where
  -- a message is addressed, if it is as without standbys, or between a primary and its standby
  one_addressed : (content : Content) → IsInternalBelow nodes content → IsBetween nodes from to content →
      (is_internal content ≡ false → IsAddressed nodes from to content) → IsPairAddressed nodes from to content
  one_addressed (Log v number entry) below between addressed = record { node = below; giver = between.0; receiver = between.1 }
  one_addressed (LogAck v number) below between addressed = record { node = below; giver = between.0; receiver = between.1 }
  one_addressed content below between addressed = addressed refl

  -- what holds of the outward ones of messages holds of those of all but the first
  outward_rest : (P : Content → Type 0) (content : Content) (rest : List Content) (b : Bool) → is_internal content ≡ b → All P (outward (content ∷ rest)) →
      All P (outward rest)
  outward_rest P content rest true is all = subst (All P) (outward_none content rest is) all
  outward_rest P content rest false is all = All-tail P content (outward rest) (subst (All P) (outward_one content rest is) all)

  -- so are all
  pub all_addressed : (list : List Content) → All (IsInternalBelow nodes) list → All (IsBetween nodes from to) list →
      All (IsAddressed nodes from to) (outward list) → All (IsPairAddressed nodes from to) list
  all_addressed [] below between addressed = All-nil (IsPairAddressed nodes from to)
  all_addressed (content ∷ rest) below between addressed =
      All-cons (IsPairAddressed nodes from to) content rest
      (one_addressed content (All-head (IsInternalBelow nodes) content rest below) (All-head (IsBetween nodes from to) content rest between)
      (λ out. All-head (IsAddressed nodes from to) content (outward rest) (subst (All (IsAddressed nodes from to)) (outward_one content rest out) addressed)))
      (all_addressed rest (All-tail (IsInternalBelow nodes) content rest below) (All-tail (IsBetween nodes from to) content rest between)
      (outward_rest (IsAddressed nodes from to) content rest (is_internal content) refl addressed))
