use Rattle.std.proofs.Common.{◌≡◌, ◌==◌, false, List, [], ◌∷◌, ◌++◌, length, refl, append_assoc, codes, flat_map}
use Rattle.{xbar_equip.specs.declared.path.Path.Path, xbar_plan.specs.Tables.Tables, xbar_office_text.specs.Glance.{glance, glance_line}}
use Rattle.xbar_office_text.proofs.glance.add_glance.Goals as goal

-- if there are paths, each has its line below the heading
some_paths : (plan : Tables) (paths : List Path) → false ≡ (length paths == 0)
    → codes "PATHS AT A GLANCE\n" ++ flat_map (glance_line plan) paths ≡ glance plan paths
unfolding glance
some_paths plan [] e = cc
some_paths plan (path ∷ paths) e = refl

pub returns-in_ok-add_glance_lines : goal.returns-in_ok-add_glance_lines
returns-in_ok-add_glance_lines c =
    rw (c.in_ok-add_glance_lines.ensures, c.in_ok-push_str-2.ensures.bytes, append_assoc, some_paths c.args.plan.now c.args.paths.now c.if-is_empty.ensures)
