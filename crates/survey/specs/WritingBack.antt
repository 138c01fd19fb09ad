-- What write-back does with the records that leave the length cache, and what stands in its buffer then.
use Rattle.std.specs.Prelude.{◌≡◌, ◌-◌, ◌^◌, min, false, cond, List, [], ◌∷◌, length, take, fold, filter}
use Rattle.interface.specs.Meaning.{Life}
use Rattle.survey.specs.declared.keys.LengthNumber.{LengthNumber}
use Rattle.survey.specs.declared.length.Length.{Length}
use Rattle.survey.specs.declared.write_back.Row.{Row}
use Rattle.survey.specs.FirstRows.{First, noted as noted_row}
use Rattle.survey.specs.Lengths.{trim}

-- the buffer: the first 256 corrected records that left, and how many left
abbrev pub Buffer : Type 0
Buffer = First Row

-- the rows that hold a record
abbrev pub standing : Buffer → List Row
standing b = b.rows

-- one more corrected record: it takes the next of the 256 rows, if there is one left, and is counted, up to 2^64 - 1
abbrev pub added : Buffer → Row → Buffer
added b row = noted_row 256 b row

-- the buffer after a record went to a hook: a record that was not corrected changes nothing
abbrev pub noted : Buffer → LengthNumber → Length → Buffer
noted b key l = cond l.changed (added b (record { key = key; val = l })) b

-- write-back: it pins nothing, takes the picture away in a trim, and notes what goes to either hook
abbrev pub write_back : Life Buffer LengthNumber Length
write_back = record { pins = λ _ _. false; trim = λ b _ l. (b, trim l); hot = noted; cold = noted }

-- a call of write-back: of its trim or of one of its hooks
pub data Call : Type 0 where
  before_evict : LengthNumber → Length → Call
  on_evict_hot : LengthNumber → Length → Call
  on_evict_cold : LengthNumber → Length → Call

-- the buffer after a call
abbrev pub after : Buffer → Call → Buffer
after b (before_evict key l) = (write_back.trim b key l).0
after b (on_evict_hot key l) = write_back.hot b key l
after b (on_evict_cold key l) = write_back.cold b key l

-- the buffer after a list of calls
abbrev pub after_all : Buffer → List Call → Buffer
after_all b calls = fold after b calls

-- the records that left the cache by either hook, in their order
abbrev pub leavers : List Call → List Row
leavers [] = []
leavers (before_evict key l ∷ calls) = leavers calls
leavers (on_evict_hot key l ∷ calls) = record { key = key; val = l } ∷ leavers calls
leavers (on_evict_cold key l ∷ calls) = record { key = key; val = l } ∷ leavers calls

-- those of them that a coder has corrected
abbrev pub corrected : List Call → List Row
corrected calls = filter (λ row. row.val.changed) (leavers calls)

-- Whatever calls come, the rows hold the first 256 corrected records that left, in their order, and the count
-- says how many left, up to 2^64 - 1.
abbrev pub Gathers : Buffer → Type 0
Gathers b =
    (calls : List Call)
    → (standing (after_all b calls) ≡ take 256 (corrected calls))
    × ((after_all b calls).count ≡ min (length (corrected calls)) (2 ^ 64 - 1))
