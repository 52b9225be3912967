-- The answers of marks, from the last mark to the first.
use Rattle.std.proofs.Common.{◌≡◌, Bool, List, [], ◌∷◌, ◌++◌, drop, reverse, refl, ap, ◌∙◌, append_assoc}
use Rattle.std.proofs.lemmas.List.{reverse-append, append-nil}
use Rattle.hz_cursor.specs.declared.mark.Mark.{Mark}
use Rattle.hz_cursor.specs.declared.mark.Mark.TheVariants.{Opens, Closes}
use Rattle.hz_cursor.specs.Marks.{answers, first_or_false}

-- the flags, where the last marks that are left come first
abbrev pub back : (reversed : List Mark) → (flags pending : List Bool) → List Bool
back [] flags pending = flags
back (Opens ∷ more) flags pending = back more (first_or_false pending ∷ flags) (drop 1 pending)
back (Closes arrow ∷ more) flags pending = back more flags (arrow ∷ pending)

back_onto : (marks more : List Mark) → back (reverse marks ++ more) [] []
    ≡ back more (answers marks).0 (answers marks).1
back_onto [] more = refl
back_onto (Opens ∷ marks) more =
    let e : reverse (Opens ∷ marks) ++ more ≡ reverse marks ++ (Opens ∷ more)
    = rw (reverse-append (Opens ∷ []) marks) (append_assoc (reverse marks) (Opens ∷ []) more) in
    rw e (back_onto marks (Opens ∷ more))
back_onto (Closes arrow ∷ marks) more =
    let e : reverse (Closes arrow ∷ marks) ++ more ≡ reverse marks ++ (Closes arrow ∷ more)
    = rw (reverse-append (Closes arrow ∷ []) marks) (append_assoc (reverse marks) (Closes arrow ∷ []) more) in
    rw e (back_onto marks (Closes arrow ∷ more))

pub back_all : (marks : List Mark) → back (reverse marks) [] [] ≡ (answers marks).0
back_all marks = ap (λ ms. back ms [] []) (let e : reverse marks ≡ reverse marks ++ [] = rw append-nil refl in e)
    ∙ back_onto marks []
