-- The definitions, computed on lines of text.
use mathlib.Core.Path.{◌≡◌, refl}
use mathlib.Core.Bool.{Bool, true, false}
use mathlib.Core.List.{List, [], ◌∷◌, map}
use Prim.Native.Nat.{ℕ}
use Prim.Native.String.{String}
use lib.ListN.{length, replicate}
use Rattle.text.specs.Text.{text}
use Rattle.requests.specs.declared.forms.Request.{Request}
use Rattle.requests.specs.declared.forms.Request.TheVariants.{Open, Offer, Ask, Lend, Poke, Restore, Burst}
use Rattle.requests.specs.Words.{words, value_from}
use Rattle.requests.specs.Forms.{word_of, form_of, place_in, index_in, place_at, is_whole}
use Rattle.requests.specs.Requests.{Asking, nothing, malformed, kind_index, number_at, read_from, named, filled, asked_by, asked}

unfoldable pub meaning : Unit {0}
unfolding text value_from word_of form_of place_in index_in place_at is_whole kind_index number_at read_from named filled asked_by asked
meaning = tt

-- a request, and its numbers
abbrev asks : Request → List ℕ → Asking
asks q numbers = record { request = q; numbers = numbers }

two_words : words (text " \tlend  7\t") ≡ text "lend" ∷ text "7" ∷ []
unfolding meaning
two_words = refl

-- every one of these lines is malformed
abbrev AllMalformed : Bool → Bool → List String → Type 0
AllMalformed ended in_file lines = map (λ (l : String). asked (text l) ended in_file) lines ≡ replicate (length lines) malformed

-- what stands behind the last newline, whatever it says
cut_short_lem : (asked [] false false ≡ nothing) × AllMalformed false false ("back" ∷ "# back" ∷ [])
unfolding meaning
cut_short_lem = (refl, refl)

-- a name for a number, no form, words too many or too few, and numbers too large for their places
malformed_lines : AllMalformed true false (
    "ask ACT RD 0"
    ∷ "?"
    ∷ "back now"
    ∷ "lend 1 2"
    ∷ "poke 1"
    ∷ "lend 18446744073709551616"
    ∷ "poke 0 256"
    ∷ "open 4 2 1 4294967296 1 2 3 4 5 6 7 8 9 10 11 12 13 14 15 16 17 18 19 65535"
    ∷ "open 4 2 1 0 1 2 3 4 5 6 7 8 9 10 11 12 13 14 15 16 17 18 19 65536"
    ∷ []
    )
unfolding meaning
malformed_lines = refl

in_a_file : AllMalformed true true ("poke 0 255" ∷ "restore 64" ∷ [])
unfolding meaning
in_a_file = refl

-- a comment, a kind by its name and by a number, the largest numbers, and what stands in memory only
asked_lines : map (λ (l : String). asked (text l) true false) (" #back" ∷ "  offer\tPREPB 0 3 017 " ∷ "ask 257 1 0\r" ∷ "lend 18446744073709551615" ∷ "poke 0 255" ∷ "restore 64" ∷ [])
    ≡ nothing ∷ asks Offer (4 ∷ 0 ∷ 3 ∷ 17 ∷ []) ∷ asks Ask (257 ∷ 1 ∷ 0 ∷ []) ∷ asks Lend (18446744073709551615 ∷ []) ∷ asks Poke (0 ∷ 255 ∷ []) ∷ asks Restore (64 ∷ []) ∷ []
unfolding meaning
asked_lines = refl

opening : asked (text "open 4 2 1 4294967295 1 2 3 4 5 6 7 8 9 10 11 12 13 14 15 16 17 18 19 65535") true true ≡ asks Open (4 ∷ 2 ∷ 1 ∷ 4294967295 ∷ 1 ∷ 2 ∷ 3 ∷ 4 ∷ 5 ∷ 6 ∷ 7 ∷ 8 ∷ 9 ∷ 10 ∷ 11 ∷ 12 ∷ 13 ∷ 14 ∷ 15 ∷ 16 ∷ 17 ∷ 18 ∷ 19 ∷ 65535 ∷ [])
unfolding meaning
opening = refl

-- a burst's places come again: any number of groups, and no part of one
abbrev in_groups : String → Asking
in_groups line = filled Burst (read_from (form_of Burst) 0 (words (text line)))

whole_groups : (in_groups "RD 0 1 2 WR 3 4 5" ≡ asks Burst (2 ∷ 0 ∷ 1 ∷ 2 ∷ 3 ∷ 3 ∷ 4 ∷ 5 ∷ [])) × (in_groups "" ≡ asks Burst [])
unfolding meaning
whole_groups = (refl, refl)

-- a part of a group, and a name behind one
no_groups : (in_groups "RD 0 1 2 WR 3" ≡ malformed) × (in_groups "RD 0 1 2 3 WR 4 5" ≡ malformed)
unfolding meaning
no_groups = (refl, refl)
