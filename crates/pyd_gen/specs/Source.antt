-- The text of the generated source, in ASCII.
use Rattle.std.specs.Prelude.{ℕ, ◌+◌, ◌*◌, ◌%◌, ◌==◌, List, [], ◌++◌, codes, if◌then◌else◌}
use Rattle.std.specs.List.{flat_map, range_with_len}
use Rattle.std.specs.Fmt.{decimal}

-- the import, and the pure function that every part calls
unfoldable pub heading : List ℕ
heading =
    codes "from pydron import schedule, functional\n\n"
    ++ codes "@functional\ndef work(x, y):\n    t = 0\n    for i in range(20):\n        t = t + x + y\n    return t\n\n"

-- what part k of the source of number n hands to `work`
abbrev pub addend : ℕ → ℕ → ℕ
addend n k = ((n % 101) * 31 + k * 17) % 101

-- the lines that define part k, which adds c
abbrev pub part_lines : ℕ → ℕ → List ℕ
part_lines k c =
    codes "@schedule\ndef part"
    ++ (decimal k
    ++ (codes "():\n    s = 0\n    for i in range(50):\n        s = s + work(i, " ++ (decimal c ++ codes ")\n    return s\n\n")))

-- the line that adds part k
abbrev pub total_line : ℕ → List ℕ
total_line k = codes "total = total + part" ++ (decimal k ++ codes "()\n")

-- the line that prints the total after k parts
abbrev pub print_line : ℕ → List ℕ
print_line k = codes "print(" ++ (decimal k ++ codes ", total)\n")

-- the line that adds part k, and after every tenth part the total
abbrev pub total_lines : ℕ → List ℕ
total_lines k = total_line k ++ (if (k + 1) % 10 == 0 then print_line (k + 1) else [])

-- the whole text for the number n: forty parts, each defined and then added
unfoldable pub source : ℕ → List ℕ
source n =
    heading
    ++ (flat_map (λ k. part_lines k (addend n k)) (range_with_len 0 40) ++ (codes "total = 0\n" ++ flat_map total_lines (range_with_len 0 40)))
