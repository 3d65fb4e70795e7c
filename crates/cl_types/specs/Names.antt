-- Which bytes are a table name, a key, a value.
use Rattle.std.specs.Prelude.{ℕ, Bool, ◌&&◌, ◌||◌, ◌==◌, nat_le, List, length}
use Rattle.std.specs.List.{list_all}
use Rattle.std.specs.Char.{is_ascii_lowercase, is_ascii_digit, is_ascii_graphic}
use Rattle.cl_types.specs.declared.names.TheConstants.{TABLE_NAME_MAX, KEY_MAX}
use Rattle.cl_types.specs.declared.value.TheConstants.{VALUE_MAX}

-- from low to high, both included
abbrev pub is_between : ℕ → ℕ → ℕ → Bool
is_between low high n = nat_le low n && nat_le n high

-- 1 to 8 letters a to z
abbrev pub is_table_name : List ℕ → Bool
is_table_name bytes = is_between 1 TABLE_NAME_MAX (length bytes) && list_all is_ascii_lowercase bytes

-- a to z, 0 to 9, and the characters _ . -
abbrev pub is_key_byte : ℕ → Bool
is_key_byte b = is_ascii_lowercase b || is_ascii_digit b || (b == 95) || (b == 46) || (b == 45)

-- 1 to 32 of these
abbrev pub is_key : List ℕ → Bool
is_key bytes = is_between 1 KEY_MAX (length bytes) && list_all is_key_byte bytes

-- 1 to 128 printed characters other than the blank: hex 21 to 7E
abbrev pub is_value : List ℕ → Bool
is_value bytes = is_between 1 VALUE_MAX (length bytes) && list_all is_ascii_graphic bytes
