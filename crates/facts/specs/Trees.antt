-- Small texts, with their trees or their first fault, and what the rules and the report say of these trees.
use Rattle.std.specs.Prelude.{◌≡◌, ℕ, ◌+◌, pos, negsuc, true, false, List, [], ◌∷◌, ◌++◌, codes, take, Option, None, Some}
use Rattle.std.specs.List.{flat_map}
use Rattle.data_types.specs.declared.kind.DataType.{DataType}
use Rattle.data_types.specs.declared.kind.DataType.TheVariants as kinds
use Rattle.tree_model.specs.promise.TreeData.{Released, Live, Trees, no_trees, more_trees, MaybeTree, absent, present}
use Rattle.raw_schema.specs.promise.Members.{SchemaMembers, SchemaTree}
use Rattle.raw_array.specs.promise.Members.{Buffer, ArrayMembers, ArrayTree, whole}
use Rattle.raw_array.specs.declared.array.ReleaseKind.TheVariants.{Exported}
use Rattle.layout_rules.specs.declared.rule.LayoutRule.TheVariants as rules
use Rattle.data_types.specs.promise.KindTrees.{KindTree}
use Rattle.layout_rules.specs.promise.Walk.{first_fault}
use Rattle.facts.specs.Arrays.{faulty}
use Rattle.tree_text.specs.promise.TreeText.{TreeIs}
use Rattle.tree_text.specs.promise.Standing.{TreeLineIs, read_token, read_number, read_buffer_line}
use Rattle.tree_text.specs.promise.Report.{ReportOf}

-- lines that end with a line feed
abbrev text_of : List (List ℕ) → List ℕ
text_of ls = flat_map (λ (line : List ℕ). line ++ (10 ∷ [])) ls

-- this is the first line that isn't allowed, or is missing
abbrev FirstFaultAt : List (List ℕ) → ℕ → Type 0
FirstFaultAt ls n = TreeLineIs (text_of ls) n

abbrev schema_node : List ℕ → Option (List ℕ) → ℕ → Trees SchemaMembers → MaybeTree SchemaMembers → SchemaTree
schema_node format name flags children dictionary = Live (record { format = format; name = name; metadata = None; flags = pos flags }) children dictionary

abbrev block : List ℕ → Option Buffer
block bytes = Some (record { bytes = bytes; amount = whole })

abbrev array_node : ℕ → ℕ → List (Option Buffer) → Trees ArrayMembers → MaybeTree ArrayMembers → ArrayTree
array_node length nulls buffers children dictionary =
    Live (record { length = pos length; null_count = pos nulls; offset = pos 0; buffers = buffers; kind = Exported }) children dictionary

abbrev leaf : ℕ → List (Option Buffer) → ArrayTree
leaf length buffers = array_node length 0 buffers no_trees absent

abbrev flat : DataType → KindTree
flat kind = Live kind no_trees absent

abbrev line_1 : List ℕ
line_1 = codes "tree 1"

-- ---- a struct of one column of two numbers, the second of them null

abbrev small_lines : List (List ℕ)
small_lines =
    line_1 ∷ codes "S =+s ~ 0 1 0 ~" ∷ codes "S =i =n 2 0 0 ~" ∷ codes "A 2 0 0 1 1 0" ∷ codes "B ~" ∷ codes "A 2 1 0 2 0 0" ∷ codes "B =05"
    ∷ codes "B =0100000002000000" ∷ []

abbrev pub bits : List ℕ
bits = 5 ∷ []

abbrev pub one_and_two : List ℕ
one_and_two = 1 ∷ 0 ∷ 0 ∷ 0 ∷ 2 ∷ 0 ∷ 0 ∷ 0 ∷ []

abbrev small_schema : SchemaTree
small_schema = schema_node (codes "+s") None 0 (more_trees (schema_node (codes "i") (Some (codes "n")) 2 no_trees absent) no_trees) absent

abbrev small_array : ArrayTree
small_array = array_node 2 0 (None ∷ []) (more_trees (array_node 2 1 (block bits ∷ block one_and_two ∷ []) no_trees absent) no_trees) absent

abbrev pub SmallTree : Type 0
SmallTree = TreeIs (text_of small_lines) small_schema small_array

-- two lines end with a carriage return too, and the last one has no end
abbrev pub OtherEnds : Type 0
OtherEnds =
    TreeIs
    (text_of (line_1 ∷ (codes "S =+s ~ 0 1 0 ~" ++ (13 ∷ [])) ∷ codes "S =i =n 2 0 0 ~" ∷ codes "A 2 0 0 1 1 0" ∷ codes "B ~" ∷ codes "A 2 1 0 2 0 0"
    ∷ (codes "B =05" ++ (13 ∷ [])) ∷ [])
    ++ codes "B =0100000002000000")
    small_schema small_array

abbrev CutBehind : ℕ → Type 0
CutBehind count = FirstFaultAt (take count small_lines) (count + 1)

-- cut behind each of its lines but the last, it lacks the next one
abbrev pub Cuts : Type 0
Cuts = CutBehind 0 × (CutBehind 1 × (CutBehind 2 × (CutBehind 3 × (CutBehind 4 × (CutBehind 5 × (CutBehind 6 × CutBehind 7))))))

-- an empty line behind it
abbrev pub OneLineMore : Type 0
OneLineMore = FirstFaultAt (small_lines ++ ([] ∷ [])) 9

abbrev pub NoArray : Type 0
NoArray = FirstFaultAt (line_1 ∷ codes "S =i ~ 0 0 0 ~" ∷ []) 3

abbrev small_kinds : KindTree
small_kinds = Live kinds.Struct (more_trees (flat (kinds.Int 32 true)) no_trees) absent

abbrev pub SmallReport : Type 0
SmallReport = ReportOf small_kinds small_array ≡ text_of (codes "ok" ∷ codes "/ =+s 2 0" ∷ codes "/0 =i 2 1" ∷ [])

-- ---- tokens, numbers and buffers

-- a space and a percent sign; a byte that stands for itself is spelled in no other way, and digits are in upper case
abbrev pub Tokens : Type 0
Tokens =
    (read_token (codes "~") ≡ Some None) × ((read_token (codes "=") ≡ Some (Some []))
    × ((read_token (codes "=%20%25") ≡ Some (Some (32 ∷ 37 ∷ [])))
    × ((read_token (codes "=%41") ≡ None) × ((read_token (codes "=%0a") ≡ None) × (read_token (codes "=%0A") ≡ Some (Some (10 ∷ [])))))))

abbrev pub Numbers : Type 0
Numbers =
    (read_number (codes "0") ≡ Some (pos 0)) × ((read_number (codes "-0") ≡ None)
    × ((read_number (codes "+1") ≡ None) × ((read_number (codes "01") ≡ None) × ((read_number [] ≡ None)
    × ((read_number (codes "-9223372036854775808") ≡ Some (negsuc 9223372036854775807)) × (read_number (codes "9223372036854775808") ≡ None))))))

abbrev pub BufferLines : Type 0
BufferLines =
    (read_buffer_line (codes "B =") ≡ Some (Some [])) × ((read_buffer_line (codes "B =0a") ≡ Some (Some (10 ∷ []))) × ((read_buffer_line (codes "B =0A") ≡ None)
    × ((read_buffer_line (codes "B =a") ≡ None) × (read_buffer_line (codes "B") ≡ None))))

-- ---- trees that break a rule

abbrev pub falling : List ℕ
falling = 0 ∷ 0 ∷ 0 ∷ 0 ∷ 3 ∷ 0 ∷ 0 ∷ 0 ∷ 2 ∷ 0 ∷ 0 ∷ 0 ∷ []

abbrev pub abc : List ℕ
abc = codes "abc"

abbrev falling_array : ArrayTree
falling_array = leaf 2 (None ∷ block falling ∷ block abc ∷ [])

abbrev pub FallingOffsets : Type 0
FallingOffsets =
    TreeIs (text_of (line_1 ∷ codes "S =u ~ 0 0 0 ~" ∷ codes "A 2 0 0 3 0 0" ∷ codes "B ~" ∷ codes "B =000000000300000002000000" ∷ codes "B =616263" ∷ []))
    (schema_node (codes "u") None 0 no_trees absent) falling_array
    × (first_fault (flat (kinds.Utf8 false)) falling_array ≡ faulty [] rules.OffsetsFall 1 (pos 3) (pos 2))

abbrev pub index : List ℕ
index = 2 ∷ 0 ∷ 0 ∷ 0 ∷ []

abbrev pub rising : List ℕ
rising = 0 ∷ 0 ∷ 0 ∷ 0 ∷ 1 ∷ 0 ∷ 0 ∷ 0 ∷ 2 ∷ 0 ∷ 0 ∷ 0 ∷ []

abbrev pub ab : List ℕ
ab = codes "ab"

abbrev coded_array : ArrayTree
coded_array = array_node 1 0 (None ∷ block index ∷ []) no_trees (present (leaf 2 (None ∷ block rising ∷ block ab ∷ [])))

abbrev pub IndexOutside : Type 0
IndexOutside =
    TreeIs
    (text_of (line_1 ∷ codes "S =i ~ 0 0 1 ~" ∷ codes "S =u ~ 0 0 0 ~" ∷ codes "A 1 0 0 2 0 1" ∷ codes "B ~" ∷ codes "B =02000000"
    ∷ codes "A 2 0 0 3 0 0" ∷ codes "B ~" ∷ codes "B =000000000100000002000000" ∷ codes "B =6162" ∷ []))
    (schema_node (codes "i") None 0 no_trees (present (schema_node (codes "u") None 0 no_trees absent))) coded_array
    × (first_fault (Live (kinds.Int 32 true) no_trees (present (flat (kinds.Utf8 false)))) coded_array ≡ faulty [] rules.IndexRange 0 (pos 2) (pos 2))

-- a format that is none, over a released array
abbrev pub RefusedFormat : Type 0
RefusedFormat = TreeIs (text_of (line_1 ∷ codes "S =q ~ 0 0 0 ~" ∷ codes "A !" ∷ [])) (schema_node (codes "q") None 0 no_trees absent) Released

-- ---- views: `hi`, and an item of 13 bytes that begins as `hell`, from the front of one data buffer

abbrev view_lines : List ℕ → List ℕ → List (List ℕ)
view_lines prefix size =
    line_1 ∷ codes "S =vu ~ 0 0 0 ~" ∷ codes "A 2 0 0 4 0 0" ∷ codes "B ~"
    ∷ (codes "B =020000006869000000000000000000000d000000" ++ prefix ++ codes "0000000000000000")
    ∷ codes "B =68656c6c6f2c20776f726c6421" ∷ (codes "B =" ++ size ++ codes "00000000000000") ∷ []

abbrev pub view_bytes : List ℕ → List ℕ
view_bytes prefix =
    (2 ∷ 0 ∷ 0 ∷ 0 ∷ 0x68 ∷ 0x69 ∷ 0 ∷ 0 ∷ 0 ∷ 0 ∷ 0 ∷ 0 ∷ 0 ∷ 0 ∷ 0 ∷ 0 ∷ 13 ∷ 0 ∷ 0 ∷ 0 ∷ []) ++ prefix ++ (0 ∷ 0 ∷ 0 ∷ 0 ∷ 0 ∷ 0 ∷ 0 ∷ 0 ∷ [])

abbrev pub data_bytes : List ℕ
data_bytes = codes "hello, world!"

abbrev pub size_bytes : ℕ → List ℕ
size_bytes size = size ∷ 0 ∷ 0 ∷ 0 ∷ 0 ∷ 0 ∷ 0 ∷ 0 ∷ []

abbrev view_array : List ℕ → ℕ → ArrayTree
view_array prefix size = leaf 2 (None ∷ block (view_bytes prefix) ∷ block data_bytes ∷ block (size_bytes size) ∷ [])

abbrev ViewsAre : List ℕ → List ℕ → List ℕ → ℕ → Type 0
ViewsAre prefix_text size_text prefix size = TreeIs (text_of (view_lines prefix_text size_text)) (schema_node (codes "vu") None 0 no_trees absent)
    (view_array prefix size)

abbrev view_kinds : KindTree
view_kinds = flat kinds.Utf8View

abbrev pub hell : List ℕ
hell = codes "hell"

abbrev pub iell : List ℕ
iell = codes "iell"

-- as they should be, with their report
abbrev pub Views : Type 0
Views =
    ViewsAre (codes "68656c6c") (codes "0d") hell 13 × (ReportOf view_kinds (view_array hell 13) ≡ text_of (codes "ok" ∷ codes "/ =vu 2 0" ∷ []))

-- the second ends one byte behind its data
abbrev pub MisplacedView : Type 0
MisplacedView = ViewsAre (codes "68656c6c") (codes "0c") hell 12 × (first_fault view_kinds (view_array hell 12) ≡ faulty [] rules.ViewPlace 1 (pos 13) (pos 12))

-- the second begins as `iell`
abbrev pub WrongPrefix : Type 0
WrongPrefix =
    ViewsAre (codes "69656c6c") (codes "0d") iell 13
    × (first_fault view_kinds (view_array iell 13) ≡ faulty [] rules.ViewPrefix 1 (pos 1819043177) (pos 1819043176))
