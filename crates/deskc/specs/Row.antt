-- A machine as a flat row of 1,319 numbers of 32 bits: n, k, start, goal, W, E, phase; 256 marks, 256 labels, 256 passage numbers; 32 held states; 256 keys of 64 bits, each as two
-- numbers, its low half first.
use Rattle.std.specs.Prelude.{Bool, ◌&&◌, List, [], ◌∷◌, ◌++◌, ℕ, ◌+◌, ◌*◌, ◌/◌, ◌%◌, length, get_or, slice_range, flat_map, leb, eqb}
use Rattle.std.specs.List.{list_all}
use Rattle.laws.specs.Part.{overlaid}
use Rattle.laws.specs.Fill.{made}
use Rattle.desk.specs.declared.Machine.{Machine}

-- where each part of the row begins
abbrev pub marks_at : ℕ
marks_at = 7

abbrev pub labels_at : ℕ
labels_at = 263

abbrev pub vias_at : ℕ
vias_at = 519

abbrev pub held_at : ℕ
held_at = 775

abbrev pub keys_at : ℕ
keys_at = 807

abbrev pub row_length : ℕ
row_length = 1319

-- no number of a part is larger
unfoldable pub at_most : ℕ → List ℕ → Bool
at_most most part = list_all (λ x. leb x most) part

-- a row holds a machine: it has its length, and each number is small enough for its field; a half of a key has 32 bits, as each number of a lent row has
unfoldable pub is_row : List ℕ → Bool
is_row row =
    eqb (length row) row_length
    && (at_most 65535 (slice_range row 4 6)
    && (at_most 255 (slice_range row 6 marks_at)
    && (at_most 255 (slice_range row marks_at labels_at)
    && (at_most 65535 (slice_range row vias_at held_at)
    && (at_most 65535 (slice_range row held_at keys_at)
    && at_most 4294967295 (slice_range row keys_at row_length))))))

-- the part of a row from a place on
unfoldable pub part : List ℕ → ℕ → ℕ → List ℕ
part row from count = made (λ i. get_or row (from + i) 0) count

-- a key stands in two places, its low half first
abbrev pub key_halves : ℕ → List ℕ
key_halves key = key % 4294967296 ∷ (key / 4294967296 ∷ [])

abbrev pub key_at : List ℕ → ℕ → ℕ
key_at row at = get_or row at 0 + 4294967296 * get_or row (at + 1) 0

-- the key of s
abbrev pub key_from : List ℕ → ℕ → ℕ
key_from row s = key_at row (keys_at + 2 * s)

unfoldable pub unpacked : List ℕ → Machine
unpacked row = record {
  n = get_or row 0 0;
  k = get_or row 1 0;
  start = get_or row 2 0;
  goal = get_or row 3 0;
  pull = get_or row 4 0;
  excess = get_or row 5 0;
  phase = get_or row 6 0;
  mark = part row marks_at 256;
  label = part row labels_at 256;
  via = part row vias_at 256;
  held = part row held_at 32;
  key = made (key_from row) 256;
}

-- the halves of some keys, in a row
unfoldable pub halves : List ℕ → List ℕ
halves keys = flat_map key_halves keys

-- the numbers of a machine that a call can change, and the row with them; its first six numbers are the task's, and stay
unfoldable pub changing : Machine → List ℕ
changing m = m.phase ∷ (m.mark ++ (m.label ++ (m.via ++ (m.held ++ halves m.key))))

unfoldable pub changed : List ℕ → Machine → List ℕ
changed row m = overlaid 6 (changing m) row

-- the whole machine as a row, for opening
unfoldable pub packed : Machine → List ℕ
packed m = m.n ∷ m.k ∷ m.start ∷ m.goal ∷ m.pull ∷ m.excess ∷ changing m
