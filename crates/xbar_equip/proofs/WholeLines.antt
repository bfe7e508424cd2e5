-- texts and their lines
use Rattle.std.proofs.Common.{◌≡◌, ℕ, Bool, true, false, cond, List, [], ◌∷◌, ◌++◌, refl, sym, ap, ◌∙◌, append_assoc, ◌==◌, not, flat_map, eqb-true}
use Rattle.{std.specs.List.{list_all, onto_first}, xbar_equip.{proofs.Logic.both, specs.TextLines.{IsWholeLine, Lacks, lines}}}

plain : (x : ℕ) (b : Bool) (text : List ℕ) → not b ≡ true → cond b ((x ∷ []) ∷ lines text) (onto_first x (lines text)) ≡ onto_first x (lines text)
plain x true text h = cc
plain x false text h = refl

-- a byte that is not a line feed goes to the front of the first line
more_of_line : (x : ℕ) (text : List ℕ) → not (x == 10) ≡ true → lines (x ∷ text) ≡ onto_first x (lines text)
unfolding lines
more_of_line x text h = plain x (x == 10) text h

end_of_line : (rest : List ℕ) → lines (10 ∷ rest) ≡ (10 ∷ []) ∷ lines rest
unfolding lines
end_of_line rest = refl

-- the empty text has no lines
pub lines_of_nothing : lines [] ≡ []
unfolding lines
lines_of_nothing = refl

-- the first of the lines of a text
lines_of_more : (front rest : List ℕ) → Lacks 10 front → lines (front ++ 10 ∷ rest) ≡ (front ++ 10 ∷ []) ∷ lines rest
lines_of_more [] rest h = end_of_line rest
lines_of_more (x ∷ front) rest h =
    let h2 = both (not (x == 10)) (list_all (λ b. not (b == 10)) front) h in
    more_of_line x (front ++ 10 ∷ rest) h2.0 ∙ ap (onto_first x) (lines_of_more front rest h2.1)

pub whole_line_first : (line rest : List ℕ) → IsWholeLine line → lines (line ++ rest) ≡ line ∷ lines rest
whole_line_first line rest w =
    let text : line ++ rest ≡ w.front ++ 10 ∷ rest = ap (λ (l : List ℕ). l ++ rest) w.line_is ∙ append_assoc w.front (10 ∷ []) rest in
    ap lines text ∙ lines_of_more w.front rest w.lacks ∙ ap (λ (l : List ℕ). l ∷ lines rest) (sym w.line_is)

-- a text without a line feed is one line
pub lines_of_rest : (x : ℕ) (text : List ℕ) → Lacks 10 (x ∷ text) → lines (x ∷ text) ≡ (x ∷ text) ∷ []
lines_of_rest x [] h = more_of_line x [] (both (not (x == 10)) true h).0 ∙ ap (onto_first x) lines_of_nothing
lines_of_rest x (y ∷ text) h =
    let h2 = both (not (x == 10)) (list_all (λ b. not (b == 10)) (y ∷ text)) h in
    more_of_line x (y ∷ text) h2.0 ∙ ap (onto_first x) (lines_of_rest y text h2.1)

first_of : (x : ℕ) (parts : List (List ℕ)) → flat_map (λ (l : List ℕ). l) (onto_first x parts) ≡ x ∷ flat_map (λ (l : List ℕ). l) parts
first_of x [] = refl
first_of x (part ∷ parts) = refl

joined_by : (x : ℕ) (b : Bool) (text : List ℕ) → (x == 10) ≡ b → flat_map (λ (l : List ℕ). l) (lines text) ≡ text
    → flat_map (λ (l : List ℕ). l) (lines (x ∷ text)) ≡ x ∷ text
joined_by x true text e h =
    let is : x ≡ 10 = eqb-true x 10 e in
    ap (λ (c : ℕ). flat_map (λ (l : List ℕ). l) (lines (c ∷ text))) is ∙ ap (flat_map (λ (l : List ℕ). l)) (end_of_line text)
    ∙ ap (λ (more : List ℕ). 10 ∷ more) h ∙ ap (λ (c : ℕ). c ∷ text) (sym is)
joined_by x false text e h =
    ap (flat_map (λ (l : List ℕ). l)) (more_of_line x text (ap not e)) ∙ first_of x (lines text) ∙ ap (λ (more : List ℕ). x ∷ more) h

-- the lines of a text, joined, are the text
pub joined_lines : (text : List ℕ) → flat_map (λ (l : List ℕ). l) (lines text) ≡ text
joined_lines [] = ap (flat_map (λ (l : List ℕ). l)) lines_of_nothing
joined_lines (x ∷ text) = joined_by x (x == 10) text refl (joined_lines text)
