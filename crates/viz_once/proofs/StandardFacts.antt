-- Values by hand, which pin the definitions: the lines of a report, commands, and the nodes of a fixed history.
use Rattle.std.specs.Prelude.{◌≡◌, pos, negsuc, [], ◌∷◌, codes, Option, Some, None, refl}
use Rattle.std.specs.Fmt.{digits}
use Rattle.viz_lex.specs.Reading.{fault_at}
use Rattle.viz_lex.specs.declared.fault.FileFault.{FileFault}
use Rattle.viz_lex.specs.declared.fault.FileKind.TheVariants as kind
use Rattle.viz_network.specs.declared.fault.Cause.{Cause}
use Rattle.viz_network.specs.declared.fault.Cause.TheVariants as cause
use Rattle.viz_report.specs.declared.line.Reason.{Reason}
use Rattle.viz_report.specs.declared.line.Reason.TheVariants as reason
use Rattle.viz_reshape.specs.declared.reshape.Reshape.TheVariants.{Strip, Clip}
use Rattle.viz_once.specs.declared.command.Filter.TheVariants.{Node, Reshape}
use Rattle.viz_once.specs.declared.command.NodeFilter.TheVariants.{Threshold, Contour}
use Rattle.viz_once.specs.Command.{Command, clip_of, clip_with, file_name_of, filter_of, once_of, strip_of}
use Rattle.viz_once.specs.FixedHistory.{source, op, source_id, op_id}
use Rattle.viz_once.specs.Report.{file_line, refused_line, strips_line}

cells_and_points : file_line 0 4 ≡ codes "file cells 0 points 4\n"
unfolding digits file_line
cells_and_points = refl

strips_and_triangles : strips_line 3 6 7 ≡ codes "strips 3 triangles 6 points 7\n"
unfolding digits strips_line
strips_and_triangles = refl

-- a fault of the source's file, and one of the filter's node
abbrev bad_file : FileFault → Reason
bad_file f = reason.Fault (record { node = record { 0 = source_id }; cause = cause.BadFile f }) source

abbrev at_op : Cause → Reason
at_op why = reason.Fault (record { node = record { 0 = op_id }; cause = why }) op

value_past_type : refused_line (bad_file (fault_at kind.ValueRange 163)) ≡ codes "refused fault:src:BadFile(ValueRange,163)\n"
unfolding digits refused_line
value_past_type = refl

bad_cell_type : refused_line (bad_file (fault_at (kind.CellType (negsuc 6)) 40)) ≡ codes "refused fault:src:BadFile(CellType(-7),40)\n"
unfolding digits refused_line
bad_cell_type = refl

mesh_given : refused_line (at_op (cause.WrongInput 1)) ≡ codes "refused fault:op:WrongInput(1)\n"
unfolding digits refused_line
mesh_given = refl

wide_result : refused_line (at_op cause.TooWide) ≡ codes "refused fault:op:TooWide\n"
unfolding refused_line
wide_result = refl

many_points : refused_line (at_op cause.TooMany) ≡ codes "refused fault:op:TooMany\n"
unfolding refused_line
many_points = refl

long_file : refused_line reason.TooLong ≡ codes "refused TooLong\n"
unfolding refused_line
long_file = refl

abbrev command : Command → Option Command
command c = Some c

abbrev no_command : Option Command
no_command = None

once_threshold : once_of (codes "b.vtk" ∷ codes "o.vtk" ∷ codes "threshold" ∷ codes "-2" ∷ codes "3" ∷ []) ≡ command (record { input = codes "b.vtk"; output = codes "o.vtk"; filter = Node (Threshold (negsuc 1) (pos 3)) })
unfolding file_name_of filter_of once_of
once_threshold = refl

once_contour : once_of (codes "b.vtk" ∷ codes "o.vtk" ∷ codes "contour" ∷ codes "-5" ∷ []) ≡ command (record { input = codes "b.vtk"; output = codes "o.vtk"; filter = Node (Contour (negsuc 4)) })
unfolding file_name_of filter_of once_of
once_contour = refl

contour_takes_one_number : once_of (codes "b.vtk" ∷ codes "o.vtk" ∷ codes "contour" ∷ codes "2" ∷ codes "3" ∷ []) ≡ no_command
unfolding file_name_of filter_of once_of
contour_takes_one_number = refl

plus_is_no_number : once_of (codes "b.vtk" ∷ codes "o.vtk" ∷ codes "threshold" ∷ codes "+2" ∷ codes "3" ∷ []) ≡ no_command
unfolding file_name_of filter_of once_of
plus_is_no_number = refl

point_begins_no_name : once_of (codes ".b.vtk" ∷ codes "o.vtk" ∷ codes "threshold" ∷ codes "2" ∷ codes "3" ∷ []) ≡ no_command
unfolding file_name_of filter_of once_of
point_begins_no_name = refl

strip_of_two_names : strip_of (codes "b.vtk" ∷ codes "o.vtk" ∷ []) ≡ command (record { input = codes "b.vtk"; output = codes "o.vtk"; filter = Reshape Strip })
unfolding file_name_of strip_of
strip_of_two_names = refl

strip_takes_no_number : strip_of (codes "b.vtk" ∷ codes "o.vtk" ∷ codes "1" ∷ []) ≡ no_command
unfolding strip_of
strip_takes_no_number = refl

clip_by_a_plane : clip_of (codes "b.vtk" ∷ codes "o.vtk" ∷ codes "0" ∷ codes "-2147483647" ∷ codes "2" ∷ codes "-1" ∷ [])
    ≡ command (record { input = codes "b.vtk"; output = codes "o.vtk"; filter = Reshape (Clip (pos 0) (negsuc 2147483646) (pos 2) (negsuc 0)) })
unfolding file_name_of clip_with clip_of
clip_by_a_plane = refl

clip_without_a_normal : clip_of (codes "b.vtk" ∷ codes "o.vtk" ∷ codes "0" ∷ codes "0" ∷ codes "0" ∷ codes "1" ∷ []) ≡ no_command
unfolding file_name_of clip_with clip_of
clip_without_a_normal = refl

clip_past_a_plane : clip_of (codes "b.vtk" ∷ codes "o.vtk" ∷ codes "0" ∷ codes "0" ∷ codes "1" ∷ codes "2147483648" ∷ []) ≡ no_command
unfolding file_name_of clip_with clip_of
clip_past_a_plane = refl
