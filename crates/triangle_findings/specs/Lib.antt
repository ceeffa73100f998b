pub mod TriangleFindings
