-- The cut is at the first byte that passes the test, or at the text's end.
use Rattle.std.proofs.Common.{◌≡◌, ℕ, ◌≤◌, Bool, true, false, ltb, length, take, drop, Some, None, Option, cond, refl, ap, ◌∙◌, arith}
use Rattle.std.specs.Prelude.{unwrap_or}
use Rattle.std.specs.Iterator.{ActsAs}
use Rattle.std.specs.List.{position_or_len}
use Rattle.std.proofs.lemmas.Bool.Decides.{nat_tests}
use Rattle.std.proofs.lemmas.Iterator.{YieldsList-from_slice}
use Rattle.std.proofs.lemmas.Iterator.Search.{position_from_yields_List}
use Rattle.std.proofs.lemmas.List.Sums.{prefix_len-le-length}
use Rattle.survey_text.proofs.words.cut.Goals as goal
use Rattle.survey_text.proofs.words.cut.Given.{Over}

or_len : (k n : ℕ) → k ≤ n → unwrap_or (cond {A = Option ℕ} (ltb k n) (Some k) None) n ≡ k
or_len k n h = go (ltb k n) refl
  where
    go : (b : Bool) → ltb k n ≡ b → unwrap_or (cond {A = Option ℕ} b (Some k) None) n ≡ k
    go true e = refl
    go false e = grind (arith, nat_tests)

cut_at : (g : Over) (c : goal.After-split_at g) (test : ℕ → Bool) → ActsAs g.F.FnMut c.args.ends (λ x. test x.now) → c.unwrap_or-end.result ≡ position_or_len test c.args.text.now
cut_at g c test acts =
    c.unwrap_or-end.ensures
    ∙ ap (λ r. unwrap_or r (length c.args.text.now))
    (position_from_yields_List test c.position.new.self c.args.ends c.position.result c.position.ensures.ran (YieldsList-from_slice c.args.text.now c.iter.ensures.rest) acts)
    ∙ or_len (position_or_len test c.args.text.now) (length c.args.text.now) (prefix_len-le-length _ c.args.text.now)

pub returns-clause-front : goal.returns-clause-front
returns-clause-front g c test acts = c.split_at.ensures.front ∙ ap (λ n. take n c.args.text.now) (cut_at g c test acts)

pub returns-clause-behind : goal.returns-clause-behind
returns-clause-behind g c test acts = c.split_at.ensures.back ∙ ap (λ n. drop n c.args.text.now) (cut_at g c test acts)
