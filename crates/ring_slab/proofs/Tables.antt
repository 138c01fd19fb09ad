-- What entering and leaving make of a bucket's chain, and of the whole table.
use Rattle.std.proofs.Common.{◌≡◌, ℕ, ◌<◌, ◌≤◌, List, [], ◌∷◌, ◌++◌, length, set, sym, refl, ap, ◌∙◌, subst, ⊎_elim, arith}
use Rattle.std.proofs.lemmas.List.{append_assoc, length-map, length-set, get_or-set_same, get_or-set_other}
use Rattle.std.proofs.lemmas.Bool.{cases_eq}
use Rattle.ring_slab.specs.declared.slots.Slot.{Slot}
use Rattle.ring_slab.specs.Places.{look, count, behind_first, without}
use Rattle.ring_slab.specs.Slots.{buckets, chains}
use Rattle.ring_slab.specs.Chains.{chain, Ends, Table, chain_in, Rechained}
use Rattle.ring_slab.proofs.Counts.{one_at, count_append, count_head, apart, without_is}
use Rattle.ring_slab.proofs.Chains.{step, at_end, chain_past, chain_kept, chain_alone, chain_behind, chain_cut}

module _ {T : Type 0} (s s' : List (Slot T)) (b at : ℕ) (len : length s' ≡ length s) where
  -- a bucket's chain in the new slots, known at the old length
  made : (ys : List ℕ) → (chain (look (chains s')) (length s) (look (buckets s') b) ≡ ys) × Ends (look (chains s')) (length s) (look (buckets s') b) → ((k : ℕ) → (k ≡ at → ⊥) → count k (chain_in s b) ≡ 0 → look (chains s') k ≡ look (chains s) k) → ((c : ℕ) → (c ≡ b → ⊥) → look (buckets s') c ≡ look (buckets s) c) → Rechained s s' b at ys
  made ys q kept heads =
      record {
        now = subst (λ e. chain (look (chains s')) e (look (buckets s') b) ≡ ys) (sym len) q.0;
        ends = subst (λ e. Ends (look (chains s')) e (look (buckets s') b)) (sym len) q.1;
        kept = kept;
        heads = heads;
      }

  -- the heads where none is written
  same_heads : buckets s' ≡ buckets s → (c : ℕ) → look (buckets s') c ≡ look (buckets s) c
  same_heads e c = ap (λ l. look l c) e

  pub entered_behind : (h₀ second : ℕ) → h₀ ≡ look (buckets s) b → second ≡ look (chains s) h₀ → at < length s → Ends (look (chains s)) (length s) (look (buckets s) b) → count at (chain_in s b) ≡ 0 → h₀ < length s → buckets s' ≡ buckets s → chains s' ≡ set (set (chains s) at second) h₀ at → Rechained s s' b at (behind_first at (chain_in s b))
  entered_behind h₀ second is next here w out lt₀ bs cs₀ =
      let n = look (chains s) in
      let h = look (buckets s) b in
      let lt : h < length s = omega arith in
      let cs : chains s' ≡ set (set (chains s) at (n h)) h at = rw (next, is) at cs₀ in
      let in_h : 1 ≤ count h (chain_in s b) = omega (arith, ap (λ l. count h l) (step n (length s) h w lt).0, count_head h (chain n (length s) (n h))) in
      let ne : (at ≡ h → ⊥) = λ e. apart at h (chain_in s b) out in_h e in
      let la : at < length (chains s) = simp length-map here in
      let lh : h < length (set (chains s) at (n h)) = simp (length-set, length-map) lt in
      let to : look (chains s') h ≡ at = rw cs (get_or-set_same (set (chains s) at (n h)) h at 0 lh) in
      let on : look (chains s') at ≡ n h = rw cs (get_or-set_other (set (chains s) at (n h)) h at at 0 ne ∙ get_or-set_same (chains s) at (n h) 0 la) in
      let same : (k : ℕ) → (k ≡ h → ⊥) → (k ≡ at → ⊥) → look (chains s') k ≡ n k = λ k nh na. rw cs (get_or-set_other (set (chains s) at (n h)) h k at 0 nh ∙ get_or-set_other (chains s) at k (n h) 0 na) in
      let q = chain_behind n (look (chains s')) (length s) h at w lt out here to on same in
      made (behind_first at (chain_in s b))
      (subst (λ i. (chain (look (chains s')) (length s) i ≡ behind_first at (chain_in s b)) × Ends (look (chains s')) (length s) i) (sym (same_heads bs b)) q)
      (λ k na z. same k (apart k h (chain_in s b) z in_h) na)
      (λ c nc. same_heads bs c)

  pub entered_first : (h₀ : ℕ) → h₀ ≡ look (buckets s) b → at < length s → b < length s → Ends (look (chains s)) (length s) (look (buckets s) b) → length s ≤ h₀ → buckets s' ≡ set (buckets s) b at → chains s' ≡ set (chains s) at h₀ → Rechained s s' b at (behind_first at (chain_in s b))
  entered_first h₀ is₀ here lb w past₀ bs cs₀ =
      let n = look (chains s) in
      let h = look (buckets s) b in
      let past : length s ≤ h = omega arith in
      let cs : chains s' ≡ set (chains s) at h = rw is₀ at cs₀ in
      let la : at < length (chains s) = simp length-map here in
      let lb' : b < length (buckets s) = simp length-map lb in
      let to : look (chains s') at ≡ length s = rw cs (get_or-set_same (chains s) at h 0 la ∙ at_end n (length s) h w past) in
      let q = chain_alone n (look (chains s')) (length s) at here to in
      let front : look (buckets s') b ≡ at = rw bs (get_or-set_same (buckets s) b at 0 lb') in
      made (behind_first at (chain_in s b))
      (subst (λ i. (chain (look (chains s')) (length s) i ≡ behind_first at (chain_in s b)) × Ends (look (chains s')) (length s) i) (sym front)
      (q.0 ∙ ap (λ l. behind_first at l) (sym (chain_past n (length s) h past)), q.1))
      (λ k na z. rw cs (get_or-set_other (chains s) at k h 0 na))
      (λ c nc. rw bs (get_or-set_other (buckets s) b c at 0 nc))

  pub left_first : b < length s → Ends (look (chains s)) (length s) (look (buckets s) b) → look (buckets s) b ≡ at → at < length s → buckets s' ≡ set (buckets s) b (look (chains s) at) → chains s' ≡ chains s → Rechained s s' b at (without at (chain_in s b))
  left_first lb w is here bs cs =
      let n = look (chains s) in
      let lb' : b < length (buckets s) = simp length-map lb in
      let wa : Ends n (length s) at = subst (λ i. Ends n (length s) i) is w in
      let q = step n (length s) at wa here in
      let front : look (buckets s') b ≡ n at = rw bs (get_or-set_same (buckets s) b (n at) 0 lb') in
      let was : chain_in s b ≡ at ∷ chain n (length s) (n at) = ap (λ i. chain n (length s) i) is ∙ q.0 in
      let less : chain n (length s) (n at) ≡ without at (chain_in s b) = sym (ap (λ l. without at l) was ∙ without_is at [] (chain n (length s) (n at)) refl) in
      made (without at (chain_in s b))
      (subst (λ l. (chain (look l) (length s) (look (buckets s') b) ≡ without at (chain_in s b)) × Ends (look l) (length s) (look (buckets s') b)) (sym cs)
      (subst (λ i. (chain n (length s) i ≡ without at (chain_in s b)) × Ends n (length s) i) (sym front) (less, q.1)))
      (λ k na z. ap (λ l. look l k) cs)
      (λ c nc. rw bs (get_or-set_other (buckets s) b c (n at) 0 nc))

  pub left_later : (p : ℕ) (x y : List ℕ) → Ends (look (chains s)) (length s) (look (buckets s) b) → chain_in s b ≡ x ++ p ∷ at ∷ y → p < length s → buckets s' ≡ buckets s → chains s' ≡ set (chains s) p (look (chains s) at) → Rechained s s' b at (without at (chain_in s b))
  left_later p x y w was lt bs cs =
      let n = look (chains s) in
      let lp : p < length (chains s) = simp length-map lt in
      let to : look (chains s') p ≡ n at = rw cs (get_or-set_same (chains s) p (n at) 0 lp) in
      let same : (k : ℕ) → (k ≡ p → ⊥) → look (chains s') k ≡ n k = λ k ne. rw cs (get_or-set_other (chains s) p k (n at) 0 ne) in
      let q = chain_cut n (look (chains s')) (length s) (look (buckets s) b) p at x y w was to same in
      let split : chain_in s b ≡ (x ++ p ∷ []) ++ at ∷ y = was ∙ sym (append_assoc x (p ∷ []) (at ∷ y)) in
      let out : count at (x ++ p ∷ []) ≡ 0 = omega (arith, w.once at, ap (λ l. count at l) split, count_append at (x ++ p ∷ []) (at ∷ y), one_at at at refl) in
      let less : x ++ p ∷ y ≡ without at (chain_in s b) = sym (ap (λ l. without at l) split ∙ without_is at (x ++ p ∷ []) y out ∙ append_assoc x (p ∷ []) y) in
      made (without at (chain_in s b))
      (subst (λ i. (chain (look (chains s')) (length s) i ≡ without at (chain_in s b)) × Ends (look (chains s')) (length s) i) (sym (same_heads bs b)) (q.0 ∙ less, q.1))
      (λ k na z. same k (λ e. omega (arith, z, ap (λ l. count k l) was, count_append k x (p ∷ at ∷ y), one_at k p e)))
      (λ c nc. same_heads bs c)

-- The table after `at` came into the chain of bucket b, or left it: the other places of that chain are those of
-- before, and the other chains are as they were.
module _ (l l' h h' : ℕ → ℕ) (size : ℕ) (home home' entered entered' : ℕ → ℕ) (b at : ℕ) (t : Table l h size home entered) (ltb : b < size) (homes : (k : ℕ) → (k ≡ at → ⊥) → home' k ≡ home k) (mine : home' at ≡ b) (same : (k : ℕ) → (k ≡ at → ⊥) → entered' k ≡ entered k) (only : (c : ℕ) → c < size → (c ≡ b → ⊥) → count at (chain l size (h c)) ≡ 0) (ends : Ends l' size (h' b)) (now : count at (chain l' size (h' b)) ≡ entered' at) (rest : (k : ℕ) → (k ≡ at → ⊥) → count k (chain l' size (h' b)) ≡ count k (chain l size (h b))) (kept : (k : ℕ) → (k ≡ at → ⊥) → count k (chain l size (h b)) ≡ 0 → l' k ≡ l k) (heads : (c : ℕ) → (c ≡ b → ⊥) → h' c ≡ h c) where
  pub other_chain : (c : ℕ) → c < size → (c ≡ b → ⊥) → (chain l' size (h' c) ≡ chain l size (h c)) × Ends l' size (h' c)
  other_chain c lc ne =
      subst (λ i. (chain l' size i ≡ chain l size (h c)) × Ends l' size i) (sym (heads c ne))
      (chain_kept l l' size (h c) (t.ends c lc) (λ k in'. kept k (λ z. omega (arith, only c lc ne, ap (λ x. count x (chain l size (h c))) z))
      (⊎_elim
      (λ z. t.gone b k ltb (λ v. ne (sym z ∙ v)))
      (λ z. absurd (omega (arith, t.gone c k lc z)))
      (cases_eq (home k) c))))

  pub table_changed : Table l' h' size home' entered'
  table_changed =
      record {
        ends = λ c lc. ⊎_elim (λ z. subst (λ x. Ends l' size (h' x)) (sym z) ends) (λ z. (other_chain c lc z).1) (cases_eq c b);
        here = λ c k lc is. ⊎_elim
            (λ z. subst (λ x. count k (chain l' size (h' x)) ≡ entered' k) (sym z) (⊎_elim
            (λ y. subst (λ x. count x (chain l' size (h' b)) ≡ entered' x) (sym y) now)
            (λ y. rest k y ∙ t.here b k ltb (sym (homes k y) ∙ is ∙ z) ∙ sym (same k y))
            (cases_eq k at)))
            (λ z. ⊎_elim
            (λ y. absurd (z (sym is ∙ ap home' y ∙ mine)))
            (λ y. ap (λ x. count k x) (other_chain c lc z).0 ∙ t.here c k lc (sym (homes k y) ∙ is) ∙ sym (same k y))
            (cases_eq k at))
            (cases_eq c b);
        gone = λ c k lc no. ⊎_elim
            (λ z. subst (λ x. count k (chain l' size (h' x)) ≡ 0) (sym z) (⊎_elim
            (λ y. absurd (no (ap home' y ∙ mine ∙ sym z)))
            (λ y. rest k y ∙ t.gone b k ltb (λ v. no (homes k y ∙ v ∙ sym z)))
            (cases_eq k at)))
            (λ z. ⊎_elim
            (λ y. ap (λ x. count k x) (other_chain c lc z).0 ∙ ap (λ x. count x (chain l size (h c))) y ∙ only c lc z)
            (λ y. ap (λ x. count k x) (other_chain c lc z).0 ∙ t.gone c k lc (λ v. no (homes k y ∙ v)))
            (cases_eq k at))
            (cases_eq c b);
      }
