use Rattle.std.specs.Prelude.{ℕ, ◌/◌, ◌%◌, List, [], ◌∷◌, ◌++◌, codes, decimal, filter, flat_map, map}
use Rattle.std.specs.List.{concat, range_with_len}
use Rattle.xbar_equip.specs.Link.{Link, link_text}
use Rattle.xbar_equip.specs.declared.link.LinkKind.{LinkKind}
use Rattle.xbar_equip.specs.declared.link.LinkKind.TheVariants.{LineLink, Junctor, TrunkLink}
use Rattle.xbar_plan.specs.Tables.{Tables, is_faulty}

-- the link of a kind with the three digits of a number
abbrev pub link_numbered : LinkKind → ℕ → Link
link_numbered kind number =
    record { kind = kind; frame = number / 100; at = number / 10 % 10; channel = number % 10 }

-- the first `count` links of a kind, in the order of their digits
unfoldable pub first_links : LinkKind → ℕ → List Link
first_links kind count = map (link_numbered kind) (range_with_len 0 count)

-- the links that are out of order, among the thousand links of each kind
unfoldable pub faults_of : Tables → List Link
faults_of plan =
    filter (is_faulty plan)
    (first_links LineLink 1000 ++ first_links Junctor 1000 ++ first_links TrunkLink 1000)

-- where a link of a kind is
abbrev pub whereabouts : LinkKind → Link → List ℕ
whereabouts LineLink link =
    concat (codes "at line switch " ∷ decimal link.frame ∷ codes "," ∷ decimal link.at ∷ [])
whereabouts Junctor link =
    concat (codes "from line link frame " ∷ decimal link.frame ∷ codes " to trunk link frame "
    ∷ decimal link.at ∷ [])
whereabouts TrunkLink link =
    concat (codes "at trunk switch " ∷ decimal link.frame ∷ codes "," ∷ decimal link.at ∷ [])

-- a link in one line: its channel, and where it is
unfoldable pub fault_line : Link → List ℕ
fault_line link =
    concat (link_text link ∷ codes ": channel " ∷ decimal link.channel ∷ codes ", "
    ∷ whereabouts link.kind link ∷ codes "\n" ∷ [])

-- a line for each link, below a heading; nothing if there is none
unfoldable pub fault_lines : List Link → List ℕ
fault_lines [] = []
fault_lines (link ∷ links) = codes "\nLINKS OUT OF ORDER\n" ++ flat_map fault_line (link ∷ links)
