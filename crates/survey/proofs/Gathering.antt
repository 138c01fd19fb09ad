-- What stands in a write-back buffer after a list of calls.
use Rattle.std.proofs.Common.{◌≡◌, ◌-◌, ◌^◌, ◌<◌, ◌≤◌, min, true, false, cond, ltb, List, [], ◌∷◌, ◌++◌, length, take, sym, ap, ◌∙◌, ⊎_elim, arith}
use Rattle.std.proofs.lemmas.Bool.{cases_lt, cond-true, cond-false, lt-ltb, le-ltb}
use Rattle.std.proofs.lemmas.List.{append-nil, append_assoc, length_push, take_all, take-append-le}
use Rattle.survey.specs.declared.write_back.Row.{Row}
use Rattle.survey.specs.FirstRows.{none}
use Rattle.survey.specs.WritingBack.{Buffer, added, noted, Call, before_evict, on_evict_hot, on_evict_cold, after_all, corrected, Gathers}

-- the buffer holds the first 256 of these rows, and counts them all
pub record Holds (b : Buffer) (rows : List Row) : Type 0 where
  first : b.rows ≡ take 256 rows
  counted : b.count ≡ min (length rows) (2 ^ 64 - 1)

module _ (b : Buffer) (rows : List Row) (row : Row) (h : Holds b rows) where
  while_room : length rows < 256 → Holds (added b row) (rows ++ row ∷ [])
  while_room few =
      let longer = length_push rows row in
      let short : length (rows ++ row ∷ []) ≤ 256 = omega arith in
      record {
        first =
            cond-true (ltb b.count 256) (b.rows ++ row ∷ []) b.rows (lt-ltb b.count 256 (omega (arith, h.counted)))
            ∙ ap (λ front. front ++ row ∷ []) (h.first ∙ take_all 256 rows (omega arith))
            ∙ sym (take_all 256 (rows ++ row ∷ []) short);
        counted = omega (arith, h.counted);
      }

  past_room : 256 ≤ length rows → Holds (added b row) (rows ++ row ∷ [])
  past_room many =
      let longer = length_push rows row in
      record {
        first =
            cond-false (ltb b.count 256) (b.rows ++ row ∷ []) b.rows (le-ltb b.count 256 (omega (arith, h.counted)))
            ∙ h.first
            ∙ sym (take-append-le 256 rows (row ∷ []) many);
        counted = omega (arith, h.counted);
      }

  one_more : Holds (added b row) (rows ++ row ∷ [])
  one_more = ⊎_elim while_room past_room (cases_lt (length rows) 256)

-- a record that goes to a hook, before the rest of the calls
hooked : (b : Buffer) (rows rest : List Row) (row : Row) (P : Buffer → List Row → Type 0)
    → Holds b rows
    → ((d : Buffer) (front : List Row) → Holds d front → P d (front ++ rest))
    → P (noted b row.key row.val) (rows ++ cond row.val.changed (row ∷ rest) rest)
hooked b rows rest row P h next =
    elim row.val.changed as (λ t. P (cond t (added b row) b) (rows ++ cond t (row ∷ rest) rest))
    [ true ↦ rw append_assoc at (next (added b row) (rows ++ row ∷ []) (one_more b rows row h)) | false ↦ next b rows h ]

all_more : (calls : List Call) (b : Buffer) (rows : List Row) → Holds b rows → Holds (after_all b calls) (rows ++ corrected calls)
all_more [] b rows h = rw append-nil h
all_more (before_evict key l ∷ calls) b rows h = all_more calls b rows h
all_more (on_evict_hot key l ∷ calls) b rows h =
    hooked b rows (corrected calls) (record { key = key; val = l }) (λ d all. Holds (after_all d calls) all) h (all_more calls)
all_more (on_evict_cold key l ∷ calls) b rows h =
    hooked b rows (corrected calls) (record { key = key; val = l }) (λ d all. Holds (after_all d calls) all) h (all_more calls)

pub gathers : (b : Buffer) → b ≡ none → Gathers b
gathers b empty calls =
    let start : Holds b [] = record { first = ap (λ d. d.rows) empty; counted = ap (λ d. d.count) empty } in
    let end = all_more calls b [] start in
    (end.first, end.counted)
