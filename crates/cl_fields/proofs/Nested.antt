-- Parts in a row, bracketed from the right as they are read and from the left as spellings have them.
use Rattle.std.proofs.Common.{◌≡◌, ℕ, List, ◌++◌, append_assoc}

pub nest_3 : (a b c : List ℕ) → a ++ (b ++ c) ≡ (a ++ b) ++ c
nest_3 a b c = simp append_assoc

pub nest_4 : (a b c d : List ℕ) → a ++ (b ++ (c ++ d)) ≡ ((a ++ b) ++ c) ++ d
nest_4 a b c d = simp append_assoc

pub nest_5 : (a b c d e : List ℕ) → a ++ (b ++ (c ++ (d ++ e))) ≡ (((a ++ b) ++ c) ++ d) ++ e
nest_5 a b c d e = simp append_assoc

pub nest_6 : (a b c d e f : List ℕ) → a ++ (b ++ (c ++ (d ++ (e ++ f)))) ≡ ((((a ++ b) ++ c) ++ d) ++ e) ++ f
nest_6 a b c d e f = simp append_assoc

pub nest_7 : (a b c d e f g : List ℕ) → a ++ (b ++ (c ++ (d ++ (e ++ (f ++ g))))) ≡ (((((a ++ b) ++ c) ++ d) ++ e) ++ f) ++ g
nest_7 a b c d e f g = simp append_assoc
