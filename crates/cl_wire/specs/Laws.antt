-- What holds of every spelling, and what the faults mean.
use Rattle.std.specs.Prelude.{◌≡◌, ◌≢◌, ℕ, ◌^◌, ◌<◌, ◌≤◌, ◌↔◌, List, [], ◌∷◌, ◌++◌, length, slice_index, replicate, Ok, Err}
use Rattle.cl_fields.specs.declared.undecoded.WireFault.{WireFault}
use Rattle.cl_fields.specs.declared.undecoded.WireFault.TheVariants as faults
use Rattle.cl_wire.specs.declared.kind.TheConstants.{KINDS}
use Rattle.cl_wire.specs.Message.{Message}
use Rattle.cl_wire.specs.Spelling.{version, spelling}
use Rattle.cl_wire.specs.Range.{IsInRange}
use Rattle.cl_wire.specs.PacketReading.{read_packet}

-- the bytes are the spelling of the message, each field of which is in its range
pub record Spells (bytes : List ℕ) (m : Message) : Type 0 where
  pub text : bytes ≡ spelling m
  pub range : IsInRange m

-- each is below 256
abbrev pub AreBytes : List ℕ → Type 0
AreBytes bytes = (index : ℕ) → slice_index bytes index < 2 ^ 8

-- each message in range is read back from its spelling
abbrev pub SpelledIsRead : Type 0
SpelledIsRead = (m : Message) → IsInRange m → read_packet (spelling m) ≡ Ok m

-- bytes from which a message is read are its spelling, and it is in range
abbrev pub ReadIsSpelled : Type 0
ReadIsSpelled = (bytes : List ℕ) (m : Message) → AreBytes bytes → read_packet bytes ≡ Ok m → Spells bytes m

-- a list of bytes is the spelling of at most one message
abbrev pub SpellsAtMostOne : Type 0
SpellsAtMostOne = (bytes : List ℕ) (m n : Message) → Spells bytes m → Spells bytes n → m ≡ n

-- no spelling begins another spelling
abbrev pub NoneBeginsAnother : Type 0
NoneBeginsAnother = (m n : Message) (rest : List ℕ) → IsInRange m → IsInRange n → spelling m ++ rest ≡ spelling n → rest ≡ []

-- no spelling is longer: a header of 24 bytes, 6 before a list, and four records of 181
abbrev pub NoneIsLonger : ℕ → Type 0
NoneIsLonger most = (m : Message) → IsInRange m → length (spelling m) ≤ most

-- some spelling is that long
pub record IsAsLong (most : ℕ) : Type 0 where
  pub message : Message
  pub range : IsInRange message
  pub size : length (spelling message) ≡ most

-- a spelling with bytes behind it is Rest, whatever they are
abbrev pub LongerIsRest : Type 0
LongerIsRest = (m : Message) (byte : ℕ) (more : List ℕ) → IsInRange m → read_packet (spelling m ++ (byte ∷ more)) ≡ Err faults.Rest

-- the bytes are a spelling with at least one byte behind it
pub record SpellsAndMore (bytes : List ℕ) : Type 0 where
  pub message : Message
  pub byte : ℕ
  pub more : List ℕ
  pub text : bytes ≡ spelling message ++ (byte ∷ more)
  pub range : IsInRange message

-- nothing else is Rest
abbrev pub RestIsLonger : Type 0
RestIsLonger = (bytes : List ℕ) → AreBytes bytes → read_packet bytes ≡ Err faults.Rest → SpellsAndMore bytes

-- a first byte that is not the version is Field, whatever stands behind it
abbrev pub VersionIsFirstByte : Type 0
VersionIsFirstByte = (first : ℕ) (more : List ℕ) → first ≢ version → read_packet (first ∷ more) ≡ Err faults.Field

-- the second byte, behind the byte of the version, is that of no kind
pub record NamesNoKind (bytes : List ℕ) : Type 0 where
  pub second : ℕ
  pub more : List ℕ
  pub text : bytes ≡ version ∷ second ∷ more
  pub above : length KINDS ≤ second

-- Kind comes exactly there
abbrev pub KindIsSecondByte : Type 0
KindIsSecondByte = (bytes : List ℕ) → (read_packet bytes ≡ Err faults.Kind) ↔ NamesNoKind bytes

-- a bad field or kind is the fault, whatever stands behind it
abbrev pub FaultStays : Type 0
FaultStays =
    (bytes more : List ℕ) (fault : WireFault) → fault ≢ faults.Short → fault ≢ faults.Rest → read_packet bytes ≡ Err fault → read_packet (bytes ++ more) ≡ Err fault

-- each beginning of a spelling that is not the whole is Short
abbrev pub BeginningIsShort : Type 0
BeginningIsShort = (m : Message) (text rest : List ℕ) → IsInRange m → spelling m ≡ text ++ rest → rest ≢ [] → read_packet text ≡ Err faults.Short

-- with so many zeros behind them the bytes are not Short
pub record HasEnd (bytes : List ℕ) : Type 0 where
  pub missing : ℕ
  pub ends : read_packet (bytes ++ replicate missing 0) ≢ Err faults.Short

-- no bytes are Short however many stand behind them
abbrev pub ShortEnds : Type 0
ShortEnds = (bytes : List ℕ) → HasEnd bytes
