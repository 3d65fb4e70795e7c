-- A spelling as long as any: four records, with a table, a key and a value as long as may be.
use Rattle.std.proofs.Common.{◌≡◌, ℕ, zero, suc, List, [], ◌∷◌, length, All, replicate, Some, refl, arith}
use Rattle.std.proofs.lemmas.List.Elements.{All-nil, All-cons}
use Rattle.cl_store.specs.declared.item.Item.{Item}
use Rattle.cl_wire.specs.Message.{Message, Records}
use Rattle.cl_fields.specs.Spelling.{number_32, number_64, name_bytes, value_bytes, image_bytes, item_bytes, list_bytes}
use Rattle.cl_wire.specs.Spelling.{header_bytes, content_bytes, spelling}
use Rattle.cl_fields.specs.Range.{IsIndex, IsItem, AreFew}
use Rattle.cl_wire.specs.Range.{IsContent, IsInRange}
use Rattle.cl_wire.specs.Laws.{IsAsLong}

abbrev longest_item : Item
longest_item = record { table = replicate 8 116; key = replicate 32 107; number = 1; value = Some (replicate 128 118) }

abbrev items_of : ℕ → List Item
items_of zero = []
items_of (suc count) = longest_item ∷ items_of count

abbrev longest_message : Message
longest_message = record { from = 0; to = 0; set = 0; seq = 1; ack = 0; content = Records 0 1 (items_of 4) }

item_fits : IsItem longest_item
item_fits = record { table = refl; key = refl; number = record { low = omega arith; high = omega arith }; value = refl }

all_fit : (count : ℕ) → All IsItem (items_of count)
all_fit zero = All-nil IsItem
all_fit (suc count) = All-cons IsItem longest_item (items_of count) item_fits (all_fit count)

items_fit : AreFew IsItem (items_of 4)
items_fit = record { few = omega arith; each = all_fit 4 }

index_fits : IsIndex 1
index_fits = record { low = omega arith; high = omega arith }

content_fits : IsContent longest_message.content
content_fits = (omega arith, index_fits, items_fit)

message_fits : IsInRange longest_message
message_fits = record { from = omega arith; to = omega arith; set = omega arith; seq = record { low = omega arith; high = omega arith }; ack = omega arith; content = content_fits }

length_is : length (spelling longest_message) ≡ 754
unfolding spelling header_bytes content_bytes list_bytes item_bytes name_bytes number_32 number_64 image_bytes value_bytes
length_is = refl

pub as_long : IsAsLong 754
as_long = record { message = longest_message; range = message_fits; size = length_is }
