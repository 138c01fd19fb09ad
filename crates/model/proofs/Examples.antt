-- The worked examples, by computation.
use Rattle.std.proofs.Common.{refl}
use lib.Ieee.{mul, div, of_int, to_unsigned, le}
use Rattle.model.specs.Lists.{when}
use Rattle.model.specs.Hands.{cold_hand, cool, hot_hand, shrink}
use Rattle.model.specs.Calls.{step}
use Rattle.model.specs.Ledger.{follow}
use Rattle.model.specs.Examples.{Examples, FinerExamples}

pub examples : Examples
unfolding when mul div of_int to_unsigned le hot_hand cool cold_hand shrink step follow
examples = record { settings = refl; promoted = refl; returning = refl; too_heavy = refl; heavy_pinned = refl; trimmed_stays = refl; replaced = refl; edited = refl; gone = refl; eight = refl; nought = refl; ten = refl }

pub finer_examples : FinerExamples
unfolding when mul div of_int to_unsigned le hot_hand cool cold_hand shrink step follow
finer_examples = record { just_fits = refl; trimmed_first = refl; ousted = refl; ghosts = refl; smaller = refl; pinned_head = refl; full = refl; cooled = refl; passed = refl; pinned_hot_head = refl; all_pinned = refl; judged_first = refl; reads = refl; two_at_most = refl; nothing_there = refl; asked_there = refl; ghost_there = refl; asked_twice = refl; filled_cold = refl; filled_hot = refl; inserted_on = refl; removed = refl; gains = refl; unwritten = refl }
