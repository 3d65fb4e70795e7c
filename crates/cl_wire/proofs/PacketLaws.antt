-- What is read is spelled so, and what is spelled so is read.
use Rattle.std.proofs.Common.{◌≡◌, ℕ, zero, suc, ◌+◌, ◌^◌, ◌<◌, true, List, [], ◌∷◌, ◌++◌, Option, Some, None, Result, Ok, Err, refl, sym, ap, ◌∙◌, arith}
use Rattle.std.specs.Prelude.{slice_get, IfOk}
use Rattle.std.proofs.lemmas.Bool.{eqb-true, eq-eqb, leb-true, le-leb}
use Rattle.std.proofs.lemmas.List.{append-nil}
use Rattle.cl_wire.specs.declared.decoding.Header.{Header}
use Rattle.cl_wire.specs.declared.kind.TheConstants.{KINDS}
use Rattle.cl_wire.specs.declared.kind.Kind.{Kind}
use Rattle.cl_wire.specs.declared.kind.Kind.TheVariants as kinds
use Rattle.cl_fields.specs.declared.undecoded.Undecoded.{Undecoded}
use Rattle.cl_wire.specs.declared.packet.Packet.{Packet}
use Rattle.cl_wire.specs.Message.{Message, kind_of, message_of}
use Rattle.cl_fields.specs.Spelling.{byte, number_32, number_64}
use Rattle.cl_wire.specs.Spelling.{kind_byte, version, header_bytes, content_bytes, spelling}
use Rattle.cl_fields.specs.Range.{IsActor}
use Rattle.cl_wire.specs.Range.{IsSeq, IsInRange}
use Rattle.cl_fields.specs.Reading.{Read}
use Rattle.cl_wire.specs.PacketReading.{checked_kind, is_seq, read_kind, read_seq, read_version, read_header, read_message, alone, read_packet, Decodes}
use Rattle.cl_wire.specs.Laws.{AreBytes, Spells, SpelledIsRead, ReadIsSpelled, SpellsAtMostOne, NoneBeginsAnother}
use Rattle.cl_fields.proofs.Readers.{same_found, Takes, IsSpelled, Again, takes_bind, takes_done, takes_passed, takes_last, takes_as, again_bind, again_done, again_passed, again_as, again_last}
use Rattle.cl_fields.proofs.Nested.{nest_7}
use Rattle.cl_fields.proofs.NumberLaws.{takes_byte, again_byte, takes_between, takes_up_to, again_between, takes_32, again_32, takes_64, again_64}
use Rattle.cl_wire.proofs.ContentLaws.{takes_content, again_content}

-- ---- kinds

-- each kind's byte is its index in the list, counted from base
AreInOrder : List Kind → ℕ → Type 0
AreInOrder [] base = Unit {0}
AreInOrder (kind ∷ kinds) base = (kind_byte kind ≡ base) × AreInOrder kinds (suc base)

at_index : (kinds : List Kind) (base b : ℕ) (kind : Kind) → AreInOrder kinds base → slice_get kinds b ≡ Some kind → base + b ≡ kind_byte kind
unfolding AreInOrder
at_index [] base b kind ordered e = absurd cc
at_index (first ∷ others) base zero kind ordered e =
    let same : first ≡ kind = cc in
    let here : kind_byte first ≡ base = ordered.0 in
    rw (← same, here) (omega arith)
at_index (first ∷ others) base (suc b) kind ordered e =
    let there = at_index others (suc base) b kind ordered.1 e in
    omega arith

kinds_in_order : AreInOrder KINDS 0
unfolding AreInOrder
kinds_in_order = (refl, (refl, (refl, (refl, (refl, (refl, (refl, (refl, (refl, (refl, (refl, (refl, (refl, (refl, (refl, (refl, tt))))))))))))))))

abbrev kind_bytes : Kind → List ℕ
kind_bytes kind = byte (kind_byte kind)

takes_checked_kind : (o : Option Kind) (R : Kind → List ℕ → Type 0) → ((kind : Kind) → o ≡ Some kind → R kind []) → Takes (checked_kind o) R
takes_checked_kind None R holds = record { run = λ bytes found rest fits e. absurd cc }
takes_checked_kind (Some kind) R holds = record { run = (takes_done kind R (holds kind refl)).run }

takes_kind : Takes read_kind (IsSpelled kind_bytes (λ kind. Unit {0}))
unfolding read_kind
takes_kind = takes_bind _ _ _ _ takes_byte (λ b text h.
    takes_checked_kind _ _ (λ kind e.
    let counted : 0 + b ≡ kind_byte kind = at_index KINDS 0 b kind kinds_in_order e in
    let same : b ≡ kind_byte kind = omega arith in
    record { text = rw (h.text, same) refl; fits = tt }))

again_kind : (kind : Kind) → Again read_kind (kind_bytes kind) kind
unfolding read_kind
again_kind kinds.Bare = again_last _ _ _ _ _ (again_byte 0) (record { run = λ rest. refl })
again_kind kinds.Command = again_last _ _ _ _ _ (again_byte 1) (record { run = λ rest. refl })
again_kind kinds.Outcome = again_last _ _ _ _ _ (again_byte 2) (record { run = λ rest. refl })
again_kind kinds.Ask = again_last _ _ _ _ _ (again_byte 3) (record { run = λ rest. refl })
again_kind kinds.Answer = again_last _ _ _ _ _ (again_byte 4) (record { run = λ rest. refl })
again_kind kinds.Prepare = again_last _ _ _ _ _ (again_byte 5) (record { run = λ rest. refl })
again_kind kinds.Vote = again_last _ _ _ _ _ (again_byte 6) (record { run = λ rest. refl })
again_kind kinds.Finish = again_last _ _ _ _ _ (again_byte 7) (record { run = λ rest. refl })
again_kind kinds.Inquire = again_last _ _ _ _ _ (again_byte 8) (record { run = λ rest. refl })
again_kind kinds.Decision = again_last _ _ _ _ _ (again_byte 9) (record { run = λ rest. refl })
again_kind kinds.Log = again_last _ _ _ _ _ (again_byte 10) (record { run = λ rest. refl })
again_kind kinds.LogAck = again_last _ _ _ _ _ (again_byte 11) (record { run = λ rest. refl })
again_kind kinds.Repair = again_last _ _ _ _ _ (again_byte 12) (record { run = λ rest. refl })
again_kind kinds.Records = again_last _ _ _ _ _ (again_byte 13) (record { run = λ rest. refl })
again_kind kinds.Names = again_last _ _ _ _ _ (again_byte 14) (record { run = λ rest. refl })
again_kind kinds.CopyAck = again_last _ _ _ _ _ (again_byte 15) (record { run = λ rest. refl })

-- ---- headers

seq_fits : (kind : Kind) (seq : ℕ) → seq < 2 ^ 64 → is_seq kind seq ≡ true → IsSeq kind seq
seq_fits kinds.Bare seq below passes = eqb-true seq 0 passes
seq_fits kind seq below passes = record { low = leb-true 1 seq passes; high = below }

seq_below : (kind : Kind) (seq : ℕ) → IsSeq kind seq → seq < 2 ^ 64
seq_below kinds.Bare seq fits = omega (arith, fits)
seq_below kind seq fits = fits.high

seq_passes : (kind : Kind) (seq : ℕ) → IsSeq kind seq → is_seq kind seq ≡ true
seq_passes kinds.Bare seq fits = eq-eqb seq 0 fits
seq_passes kind seq fits = le-leb 1 seq fits.low

takes_seq : (kind : Kind) → Takes (read_seq kind) (IsSpelled number_64 (IsSeq kind))
unfolding read_seq
takes_seq kind = takes_passed _ _ _ _ takes_64 (λ seq text h passes. record { text = h.text; fits = seq_fits kind seq h.fits passes })

again_seq : (kind : Kind) (seq : ℕ) → IsSeq kind seq → Again (read_seq kind) (number_64 seq) seq
unfolding read_seq
again_seq kind seq fits = again_passed _ _ _ _ (again_64 seq (seq_below kind seq fits)) (seq_passes kind seq fits)

-- the text is a header
record IsHeader (header : Header) (taken : List ℕ) : Type 0 where
  text : taken ≡ byte version ++ byte (kind_byte header.kind) ++ byte header.from ++ byte header.to ++ number_32 header.set ++ number_64 header.seq ++ number_64 header.ack
  from : IsActor header.from
  to : IsActor header.to
  set : header.set < 2 ^ 32
  seq : IsSeq header.kind header.seq
  ack : header.ack < 2 ^ 64

takes_version : Takes read_version (λ found text. text ≡ byte version)
takes_version = takes_as _ _ _ (takes_between version version) (λ b text h.
    let same : b ≡ version = omega (arith, h.fits.0, h.fits.1) in
    rw (h.text, same) refl)

takes_header : Takes read_header IsHeader
unfolding read_header
takes_header = takes_bind _ _ _ _ takes_version (λ found text_1 h1.
    takes_bind _ _ _ _ takes_kind (λ kind text_2 h2.
    takes_bind _ _ _ _ (takes_up_to 16) (λ from text_3 h3.
    takes_bind _ _ _ _ (takes_up_to 16) (λ to text_4 h4.
    takes_bind _ _ _ _ takes_32 (λ set text_5 h5.
    takes_bind _ _ _ _ (takes_seq kind) (λ seq text_6 h6.
    takes_last _ _ _ _ takes_64 (λ ack text_7 h7. record {
      text = rw (h1, h2.text, h3.text, h4.text, h5.text, h6.text, h7.text) (nest_7 (byte version) (byte (kind_byte kind)) (byte from) (byte to) (number_32 set) (number_64 seq) (number_64 ack));
      from = h3.fits;
      to = h4.fits;
      set = h5.fits;
      seq = h6.fits;
      ack = h7.fits;
    })))))))

header_of : Message → Header
header_of m = record { kind = kind_of m.content; from = m.from; to = m.to; set = m.set; seq = m.seq; ack = m.ack }

again_header : (m : Message) → IsInRange m → Again read_header (header_bytes m) (header_of m)
unfolding read_header header_bytes header_of
again_header m fits = again_as _ _ _ _
    (again_bind _ _ (byte version) _ _ _ (again_between version version version (omega arith) (omega arith))
    (again_bind _ _ (byte (kind_byte (kind_of m.content))) _ _ _ (again_kind (kind_of m.content))
    (again_bind _ _ (byte m.from) _ _ _ (again_between 0 16 m.from (omega arith) fits.from)
    (again_bind _ _ (byte m.to) _ _ _ (again_between 0 16 m.to (omega arith) fits.to)
    (again_bind _ _ (number_32 m.set) _ _ _ (again_32 m.set fits.set)
    (again_bind _ _ (number_64 m.seq) _ _ _ (again_seq (kind_of m.content) m.seq fits.seq)
    (again_last _ _ _ _ _ (again_64 m.ack fits.ack) (again_done _))))))))
    (nest_7 (byte version) (byte (kind_byte (kind_of m.content))) (byte m.from) (byte m.to) (number_32 m.set) (number_64 m.seq) (number_64 m.ack))

-- ---- packets

pub takes_message : Takes read_message (IsSpelled spelling IsInRange)
unfolding read_message spelling header_bytes
takes_message = takes_bind _ _ _ _ takes_header (λ header text_1 h1.
    takes_last _ _ _ _ (takes_content header.kind) (λ content text_2 h2. record {
      text = rw (h1.text, h2.text, ← h2.kind_is) refl;
      fits = record { from = h1.from; to = h1.to; set = h1.set; seq = rw h2.kind_is h1.seq; ack = h1.ack; content = h2.fits };
    }))

pub again_message : (m : Message) → IsInRange m → Again read_message (spelling m) m
unfolding read_message spelling header_of
again_message m fits =
    again_bind _ _ (header_bytes m) (content_bytes m.content) _ _ (again_header m fits)
    (again_last _ _ _ _ _ (again_content m.content fits.content) (again_done _))

alone_ok : {A : Type 0} (read : Read A) (found : A) → alone read ≡ Ok found → read ≡ Ok (found, [])
alone_ok {A = A} (Ok (made, [])) found e =
    let same : made ≡ found = cc in
    ap (λ (x : A). Ok (x, [])) same
alone_ok (Ok (made, b ∷ bytes)) found e = absurd cc
alone_ok (Err fault) found e = absurd cc

pub found_is_spelled : (bytes : List ℕ) (m : Message) → AreBytes bytes → read_packet bytes ≡ Ok m → Spells bytes m
unfolding read_packet
found_is_spelled bytes m fits e =
    let taken = takes_message.run bytes m [] fits (alone_ok (read_message bytes) m e) in
    record { text = taken.parts ∙ append-nil taken.text ∙ taken.holds.text; range = taken.holds.fits }

pub spelled_is_found : SpelledIsRead
unfolding read_packet
spelled_is_found m fits =
    let read : read_message (spelling m) ≡ Ok (m, []) = ap read_message (sym (append-nil (spelling m))) ∙ (again_message m fits).run [] in
    rw read refl

pub read_is_spelled : ReadIsSpelled
read_is_spelled bytes m fits e = found_is_spelled bytes m fits e

pub spells_one : SpellsAtMostOne
spells_one bytes m n first second =
    let one : read_packet bytes ≡ Ok m = rw first.text (spelled_is_found m first.range) in
    let other : read_packet bytes ≡ Ok n = rw second.text (spelled_is_found n second.range) in
    cc

pub begins_none : NoneBeginsAnother
begins_none m n rest fits_m fits_n e =
    let one : read_message (spelling n) ≡ Ok (m, rest) = rw (← e) ((again_message m fits_m).run rest) in
    let other : read_message (spelling n) ≡ Ok (n, []) = ap read_message (sym (append-nil (spelling n))) ∙ (again_message n fits_n).run [] in
    ap (λ (p : Message × List ℕ). p.1) (same_found (m, rest) (n, []) (sym one ∙ other))

pub decoded_is_spelled : (bytes : List ℕ) (result : Result Packet Undecoded) → AreBytes bytes → Decodes result (read_packet bytes) → IfOk result (λ packet. Spells bytes (message_of packet))
decoded_is_spelled bytes (Ok packet) fits decodes = found_is_spelled bytes (message_of packet) fits decodes
decoded_is_spelled bytes (Err error) fits decodes = tt
