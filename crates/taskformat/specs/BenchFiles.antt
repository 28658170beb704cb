-- The files of document 01's bench sheet, each written once. What reading them gives: promises/specs/Sheet.
use Rattle.std.specs.Prelude.{List, [], ◌∷◌, ◌++◌, ℕ, take, set}

-- 2. "The file above": the input of "The listing".
abbrev pub listing_file : List ℕ
listing_file =
    0x01 ∷ 0x04 ∷ 0x03 ∷ 0x03 ∷ 0x02 ∷ 0x00 ∷ 0x03 ∷ 0x03 ∷ 0x04 ∷ 0x00 ∷ 0x00 ∷ 0x04 ∷ 0x01 ∷ 0x01 ∷ 0x04 ∷ 0x02 ∷ 0x01 ∷
    0x04 ∷ 0x02 ∷ 0x02 ∷ 0x05 ∷ 0x00 ∷ 0x01 ∷ 0x05 ∷ 0x02 ∷ 0x03 ∷ 0x06 ∷ 0x01 ∷ 0x01 ∷ 0x07 ∷ 0x00 ∷ 0x07 ∷ 0x01 ∷ 0x07 ∷
    0x02 ∷ 0x08 ∷ []

-- 10. "Case 2's first 35 bytes."
abbrev pub without_end : List ℕ
without_end = take 35 listing_file

-- 10. "All 36 bytes with a byte 00 appended."
abbrev pub byte_appended : List ℕ
byte_appended = listing_file ++ (0x00 ∷ [])

-- 11. "Case 2 with its last step 03."
abbrev pub stray_step : List ℕ
stray_step = set listing_file 34 0x03
